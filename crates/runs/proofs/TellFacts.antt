-- What a request that is not refused tells, and what it leaves of what the store keeps.
use Rattle.std.proofs.Common.{◌≡◌, ℕ, ◌^◌, ◌<◌, ◌≤◌, true, List, [], ◌∷◌, is_none, Some, Ok, Err, Result, sym, refl, ap, subst, mod-eq_of_lt, arith, None, length}
use Rattle.holder.specs.declared.capability.Capability.{Capability}
use Rattle.secret.specs.declared.secret.Secret.{Secret}
use Rattle.admission.specs.Objects.{target_at, secret_of, object_number}
use Rattle.admission.specs.declared.target.Target.{Target}
use Rattle.admission.specs.declared.target.Target.TheVariants.{Itself, File, Directory}
use Rattle.store.specs.Outcomes.{Change, outcome_by}
use Rattle.store.specs.Order.{is_fit_for}
use Rattle.store.specs.Rows.{rows_of}
use Rattle.store.specs.LookUp.{walk_end_at}
use Rattle.rows.specs.Paths.{names_in}
use Rattle.rows.specs.Search.{place_of_name}
use Rattle.memory.specs.declared.directory_record.DirectoryRecord.{DirectoryRecord}
use Rattle.memory.specs.declared.row.Row.{Row}
use Rattle.refusal.specs.Chains.{and_then}
use Rattle.std.specs.Option.{option_map}
use Rattle.store.specs.Kept.{Kept, grant_of, file_number, directory_number}
use Rattle.store.specs.Requests.{Query, Update, create_file, create_directory, enter, remove, destroy, revoke, query, Told, granted, found, done, update}
use Rattle.store.specs.Revoke.{kept_with_secret}
use Rattle.store.specs.Serve.{scratch_after, outcome_of, reply_to}
use Rattle.store.specs.State.{State}
use Rattle.store.specs.Sizes.{sizes_agree}
use Rattle.store.specs.declared.error.StoreRefusal.{StoreRefusal}
use Rattle.refusal.proofs.ChainFacts.{same_ok, never_ok}
use Rattle.store.proofs.Admitting.{sizes_same}
use Rattle.store.proofs.AdmittedFacts.{standing_number, standing_narrow}
use Rattle.store.proofs.Standing.{located_stands}
use Rattle.runs.proofs.Entered.{Each, by_change, entered_as, EachTold, by_told, queried_as, decision}
use Rattle.runs.specs.Views.{a_directory, changed_object, view_of, view_at}
use Rattle.runs.specs.Entries.{names_asked}
use Rattle.runs.proofs.SecretFacts.{secret_seen, secret_located}
use Rattle.rows.proofs.PathFacts.{parted}
use Rattle.runs.proofs.Trails.{Trail, trail_on}
use Rattle.store.specs.Rules.{rule_of}

-- the owner capability of an object, from a fit secret
pub record OwnerTold (s : State) (object : ℕ) (secret : Secret) (told : Told) : Type 0 where
  pub narrow : object < 2 ^ 24
  pub fit : is_fit_for s secret ≡ true
  pub told_is : told ≡ granted (grant_of s.kept object secret)

-- the directory presented has no row of that name
abbrev pub NewName : State → Capability → List ℕ → Type 0
NewName s c bs =
    (secret : Secret) (rows : List Row)
    → view_at s (object_number c) ≡ Some (a_directory secret rows)
    → is_none (place_of_name bs rows) ≡ true

-- what an update tells
abbrev pub Tells : State → Capability → Update → Told → Type 0
Tells s c (create_file bs secret) told = (o : ℕ) × OwnerTold s o secret told
Tells s c (create_directory secret) told = (o : ℕ) × OwnerTold s o secret told
Tells s c (enter bs entry masks) told = (told ≡ done) × NewName s c bs
Tells s c (remove bs) told = told ≡ done
Tells s c destroy told = told ≡ done
Tells s c (revoke secret) told =
    ((old : Secret) × (secret_seen s (object_number c) ≡ Some old))
    × OwnerTold s (object_number c) secret told

-- a capability that a query finds is where the names lead that it asks for; and a query grants
-- nothing
pub record Finds (s : State) (c : Capability) (q : Query) (told : Told) : Type 0 where
  pub changes : changed_object c told ≡ None
  pub leads : (d : Capability) → told ≡ found d
      → (0 < length (names_asked (query q))) × Trail s c (names_asked (query q)) d

-- what is the same in a store for ever
pub record SameStore (k k' : Kept) : Type 0 where
  pub family : k'.family ≡ k.family
  pub port : k'.port ≡ k.port
  pub files : k'.files ≡ k.files
  pub directories : k'.directories ≡ k.directories

pub same_store : (k : Kept) → SameStore k k
same_store k = record { family = refl; port = refl; files = refl; directories = refl }

-- an owner capability has the object that it is granted for
pub object_told : (k : Kept) (o : ℕ) (secret : Secret) → o < 2 ^ 24
    → object_number (grant_of k o secret) ≡ o
object_told k o secret h = mod-eq_of_lt h

-- the store keeps its family, port and sizes when an object gets another secret
anew_same : (k : Kept) (secret : Secret) (t : Target) → SameStore k (kept_with_secret k secret t)
anew_same k secret Itself = record { family = refl; port = refl; files = refl; directories = refl }
anew_same k secret (File p r) = same_store k
anew_same k secret (Directory p d) = same_store k

-- an answer comes from a change
pub answered : (s : State) (scratch : List ℕ) (r : Result Change StoreRefusal) (told : Told)
    → (outcome_by s scratch r).answer ≡ Ok told
    → (change : Change) × ((r ≡ Ok change) × (change.told ≡ told))
answered s scratch (Ok change) told e = (change, (refl, same_ok e))
answered s scratch (Err x) told e = never_ok x told e

-- what a change tells and keeps
abbrev Right : State → Capability → Update → Change → Type 0
Right s c u change = Tells s c u change.told × SameStore s.kept change.after.kept

module _ (s : State) (c : Capability) (few : s.kept.files ≤ 256) (few' : s.kept.directories ≤ 64)
  where
    -- of a change at the object presented
    abbrev RightAt : Update → Target → Change → Type 0
    RightAt u t change = target_at s.memory (object_number c) ≡ Some t → Right s c u change

    -- a walk from the first name on
    trail_of_path : (names : List (List ℕ)) (t : Target) (x : Capability)
        → target_at s.memory (object_number c) ≡ Some t
        → walk_end_at s c.rights.bits names 1 t ≡ Ok x
        → Trail s c names x
    trail_of_path [] t x at e = never_ok _ x e
    trail_of_path (bs ∷ names) t x at e = trail_on s bs names c 1 t x at e

    -- the rows that are seen are those that were searched
    new_name : (bs : List ℕ) (p : ℕ) (d : DirectoryRecord)
        → is_none (place_of_name bs (rows_of s.memory p d)) ≡ true
        → target_at s.memory (object_number c) ≡ Some (Directory p d) → NewName s c bs
    new_name bs p d new at secret rows e =
        let same : a_directory d.secret (rows_of s.memory p d) ≡ a_directory secret rows =
        (let u = ap (option_map (view_of s)) at in cc) in
        let listed : rows_of s.memory p d ≡ rows = cc in
        subst (λ x. is_none (place_of_name bs x) ≡ true) listed new

    each_right : sizes_agree s ≡ true → Each s RightAt
    each_right fits = record {
      file_made = λ bs secret t spot fit free at. (
        (
          file_number spot.place,
          record {
            narrow =
                omega (arith, free.0.place, (sizes_same s fits).0);
            fit = fit;
            told_is = refl;
          },
        ),
        record { family = refl; port = refl; files = refl; directories = refl },
      );
      directory_made = λ secret t p fit free at. (
        (
          directory_number s.kept p,
          record {
            narrow =
                omega (arith, free.0, (sizes_same s fits).1);
            fit = fit;
            told_is = refl;
          },
        ),
        record { family = refl; port = refl; files = refl; directories = refl },
      );
      row_entered =
          λ bs entry masks p d fits at. ((refl, new_name bs p d fits.new at), same_store s.kept);
      row_removed = λ bs p d i hit at. (refl, same_store s.kept);
      file_gone = λ p r at. (refl, same_store s.kept);
      directory_gone = λ p d at. (refl, same_store s.kept);
      renewed_secret = λ secret t fit at.
          let stands = located_stands s.memory (object_number c) t at in
          let number = standing_number s (object_number c) t stands fits in (
            (
              (secret_of s.kept.own t, secret_located s (object_number c) t at),
              record {
                narrow =
                    subst (λ o. o < 2 ^ 24) number
                    (standing_narrow s (object_number c) t stands fits few few');
                fit = fit;
                told_is = ap (λ o. granted (grant_of s.kept o secret)) number;
              },
            ),
            anew_same s.kept secret t,
          );
    }

    -- the same of an answer and what is kept then
    pub answer_right : (u : Update) (x : List ℕ) (told : Told)
        → (outcome_of s c u x).answer ≡ Ok told
        → Tells s c u told × SameStore s.kept (outcome_of s c u x).after.kept
    answer_right u x told e =
        let scratch : List ℕ = scratch_after s (rule_of (update u)) x in
        let made = answered s scratch (decision s c u x) told e in
        let enters = entered_as s c u x made.0 made.1.0 in
        let right =
        by_change s RightAt (each_right enters.order.sizes) u made.0 enters enters.object in (
          subst (Tells s c u) made.1.1 right.0,
          subst (λ o. SameStore s.kept o.after.kept) (sym (ap (outcome_by s scratch) made.1.0))
              right.1,
        )

    abbrev FindsAt : Query → Target → Told → Type 0
    FindsAt q t told = target_at s.memory (object_number c) ≡ Some t → Finds s c q told

    each_finds : EachTold s c.rights.bits FindsAt
    each_finds = record {
      file_read = λ p r at. record { changes = refl; leads = λ d e. absurd (cc) };
      file_sized = λ p r at. record { changes = refl; leads = λ d e. absurd (cc) };
      name_found = λ bs t x e at. record {
        changes = refl;
        leads =
            λ d f. (
              omega arith,
              subst (Trail s c (bs ∷ [])) (let same : x ≡ d = cc in same)
                  (trail_on s bs [] c 0 t x at (ap (λ r. and_then r Ok) e)),
            );
      };
      path_found = λ path t x e at. record {
        changes = refl;
        leads =
            λ d f. (
              (parted path).some,
              subst (Trail s c (names_in path))
                  (let same : x ≡ d = cc in same) (trail_of_path (names_in path) t x at e),
            );
      };
      row_told = λ n p d i hit at. record { changes = refl; leads = λ d e. absurd (cc) };
      name_told = λ o p d i hit at. record { changes = refl; leads = λ d e. absurd (cc) };
    }

    pub query_finds : (q : Query) (told : Told) → reply_to s c q ≡ Ok told → Finds s c q told
    query_finds q told e =
        let enters = queried_as s c q told e in
        by_told s c.rights.bits FindsAt each_finds q enters.target told enters.made enters.object

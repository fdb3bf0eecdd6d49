-- Updates that bring the next secret.
use Rattle.std.proofs.Common.{◌≡◌, ◌∙◌, ℕ, List, ap}
use Rattle.holder.specs.declared.capability.Capability.{Capability}
use Rattle.secret.specs.declared.secret.Secret.{Secret}
use Rattle.store.specs.Outcomes.{Outcome}
use Rattle.store.specs.Requests.{Update, create_file, revoke}
use Rattle.store.specs.Serve.{outcome_of}
use Rattle.file_lines.specs.Registry.{RegistryState, update_outcome, outcome_with, filing_outcome, next, revoking_outcome, secret_with, zero_scratch}

-- the outcome of an update with the next secret is the effect of it
with_next : (s : RegistryState) (c : Capability) (number : ℕ) (secret : Secret)
    (to_do : Secret → Update) (o : Outcome)
    → o ≡ outcome_of s.store c (to_do secret) zero_scratch → secret.value ≡ number
    → number ≡ next s.store.kept s.last
    → update_outcome o s.owner number ≡ outcome_with s c (next s.store.kept s.last) to_do
unfolding outcome_with
with_next s c number secret to_do o came worth following =
    ap (λ (o : Outcome). update_outcome o s.owner number) came
    ∙ ap (λ (v : ℕ). update_outcome (outcome_of s.store c (to_do (secret_with v)) zero_scratch)
    s.owner
    number) worth
    ∙ ap (λ (v : ℕ). outcome_with s c v to_do) following

pub files : (s : RegistryState) (bytes : List ℕ) (number : ℕ) (secret : Secret) (o : Outcome)
    → o ≡ outcome_of s.store s.owner (create_file bytes secret) zero_scratch → secret.value ≡ number
    → number ≡ next s.store.kept s.last → update_outcome o s.owner number ≡ filing_outcome s bytes
unfolding filing_outcome
files s bytes number secret o came worth following =
    with_next s s.owner number secret (create_file bytes) o came worth following

pub revokes : (s : RegistryState) (run : Capability) (number : ℕ) (secret : Secret) (o : Outcome)
    → o ≡ outcome_of s.store run (revoke secret) zero_scratch → secret.value ≡ number
    → number ≡ next s.store.kept s.last → update_outcome o s.owner number ≡ revoking_outcome s run
unfolding revoking_outcome
revokes s run number secret o came worth following =
    with_next s run number secret revoke o came worth following

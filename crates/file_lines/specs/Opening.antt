-- Opening a store of modular powers, and all that is printed.
use Rattle.std.specs.Prelude.{ℕ, List, Option, IfSome, Err, Ok, Result}
use Rattle.std.specs.Io.KnownBytes.{Appends}
use Rattle.refusal.specs.Chains.{refused_as, unless}
use Rattle.refusal.specs.declared.Refusal.{Refusal}
use Rattle.family.specs.Modulus.{is_lawful}
use Rattle.family.specs.Power.{powers_over}
use Rattle.family.specs.Refusals.{family_refusal}
use Rattle.family.specs.declared.error.FamilyRefusal.TheVariants.{ModulusOutOfRange}
use Rattle.memory.specs.Soundness.{Content}
use Rattle.store.specs.Errors.{store_refusal}
use Rattle.text.specs.Lines.{lines_in}
use Rattle.file_lines.specs.Filing.{whole_text}
use Rattle.file_lines.specs.Printing.{action_line, reply_text}
use Rattle.file_lines.specs.Registry.{RegistryState, registry_opening}
use Rattle.file_lines.specs.declared.action.Action.TheVariants.{Open}
use Rattle.file_lines.specs.declared.numbers.Numbers.{Numbers}
use Rattle.file_lines.specs.declared.reply.Reply.TheVariants.{Refused}

-- the modulus is judged, and then a store of powers opened with the secret
abbrev pub opening_over : Numbers → Content → Result RegistryState Refusal
opening_over numbers m =
    unless (is_lawful numbers.modulus) (family_refusal ModulusOutOfRange)
    (refused_as store_refusal (registry_opening (powers_over numbers.modulus) numbers.secret m))

-- a refusal is printed as such; behind an opening comes the whole text, where the input is known
abbrev pub PrintsAll
    : Result RegistryState Refusal → Option (List ℕ) → Option (List ℕ) → Option (List ℕ) → Type 0
PrintsAll (Ok s) input was is = IfSome input (λ xs. Appends was is (whole_text s (lines_in xs)))
PrintsAll (Err refusal) input was is =
    Appends was is (action_line Open (reply_text (Refused refusal)))

-- the exit status
abbrev pub status_after : Result RegistryState Refusal → ℕ
status_after (Ok s) = 0
status_after (Err refusal) = 1

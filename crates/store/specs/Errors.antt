-- What the refusals of the store come to.
use Rattle.std.specs.Prelude.{ℕ}
use Rattle.refusal.specs.declared.Refusal.{Refusal}
use Rattle.refusal.specs.declared.Layer.TheVariants.{Store}
use Rattle.admission.specs.Denials.{denial_at}
use Rattle.store.specs.declared.error.StoreRefusal.{StoreRefusal}
use Rattle.store.specs.declared.error.StoreRefusal.TheVariants.{WrongSizes, UnsoundMemory, UnfitSecret, BadName, BadPath, Denied, NoFreeRecord, NoStart, EntryNotAccepted, NameTaken, DirectoryFull, NoSuchRow, RowNotAccepted, RowsLeft}

-- a refusal of the store at the number of a name in a walk, or at 0
abbrev pub by_store_at : ℕ → ℕ → Refusal
by_store_at number place = record { number = number; layer = Store; place = place }

-- a refusal of the store that has no place
abbrev pub by_store : ℕ → Refusal
by_store number = by_store_at number 0

abbrev pub store_refusal : StoreRefusal → Refusal
store_refusal WrongSizes = by_store 1
store_refusal UnsoundMemory = by_store 2
store_refusal UnfitSecret = by_store 3
store_refusal BadName = by_store 6
store_refusal BadPath = by_store 7
store_refusal (Denied denial place) = denial_at denial place
store_refusal NoFreeRecord = by_store 20
store_refusal NoStart = by_store 21
store_refusal EntryNotAccepted = by_store 22
store_refusal NameTaken = by_store 23
store_refusal DirectoryFull = by_store 24
store_refusal (NoSuchRow place) = by_store_at 25 place
store_refusal (RowNotAccepted place) = by_store_at 26 place
store_refusal RowsLeft = by_store 27

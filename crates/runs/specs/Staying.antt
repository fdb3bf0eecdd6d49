-- No request makes sound memory unsound, or of another size.
use Rattle.store.specs.Order.{IsInOrder}
use Rattle.store.specs.State.{State}
use Rattle.runs.specs.History.{Call, outcome_in}

abbrev pub StaysInOrder : State → Call → Type 0
StaysInOrder s call = IsInOrder s → IsInOrder (outcome_in s call).after

-- What holds of every request, whatever the store keeps and memory holds.
use Rattle.store.specs.State.{State}
use Rattle.runs.specs.History.{Call}
use Rattle.runs.specs.Views.{EffectOf}
use Rattle.runs.specs.Staying.{StaysInOrder}

pub record RequestLaws : Type 0 where
  pub stays_in_order : (s : State) (call : Call) → StaysInOrder s call
  pub effect : (s : State) (call : Call) → EffectOf s call

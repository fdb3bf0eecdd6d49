-- The laws of every request.
use Rattle.runs.specs.RequestLaws.{RequestLaws}
use Rattle.runs.proofs.Effects.{effect_of}
use Rattle.runs.proofs.SoundKept.{stays_in_order}

pub request_laws : RequestLaws
request_laws = record { stays_in_order = stays_in_order; effect = effect_of }

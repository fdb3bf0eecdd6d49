use Rattle.memory.proofs.PlaceFacts.{placed_words}
use Rattle.memory.proofs.placement.place.Goals as goal

pub returns : goal.returns
returns c = record {
  value = c.first_clear.ensures;
  words =
      placed_words c.args.files.now c.args.area c.args.length c.first_clear.result
      c.first_clear.ensures;
}

use Rattle.std.proofs.Common.{ap, ◌∙◌, replicate}
use Rattle.room.proofs.RoomFacts.{all_zero}
use Rattle.room.proofs.room.Room.new.Goals as goal

pub returns-clause-zeros : goal.returns-clause-zeros
returns-clause-zeros c =
    all_zero _ 64 16 256 16384
    (c.in_ok-vec.ensures.items_if_clones_equal (λ y same. same)
    ∙ ap (replicate 64) c.zero_file.ensures)
    (c.in_ok-vec-2.ensures.items_if_clones_equal (λ y same. same)
    ∙ ap (replicate 16) c.zero_directory.ensures)
    (c.in_ok-vec-3.ensures.items_if_clones_equal (λ y same. same)
    ∙ ap (replicate 256) c.zero_row.ensures)
    (c.in_ok-vec-4.ensures.items_if_clones_equal (λ y same. same))

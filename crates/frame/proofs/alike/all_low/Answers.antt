use Rattle.std.proofs.Common.{rules, ◌≡◌, ◌↔◌, IsTrue, All, true}
use Rattle.std.proofs.iter.runs.Made.{chains}
use Rattle.frame.specs.Questions.{low}
use Rattle.frame.proofs.Several.{same_answer, all_low-exactly}
use Rattle.frame.proofs.alike.all_low.Goals as goal

pub returns : goal.returns
returns c =
    let h : IsTrue c.all.result ↔ All (λ plane. low c.args.depth plane.now ≡ true) c.args.planes.now = search (rules, chains) in
    same_answer h (all_low-exactly c.args.depth c.args.planes.now)

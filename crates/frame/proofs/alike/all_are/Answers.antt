use Rattle.std.proofs.Common.{rules, ◌≡◌, ◌↔◌, IsTrue, All}
use Rattle.std.proofs.iter.runs.Made.{chains}
use Rattle.frame.proofs.Several.{same_answer, each-exactly}
use Rattle.frame.proofs.alike.all_are.Goals as goal

pub returns : goal.returns
returns c =
    let h : IsTrue c.all.result ↔ All (λ l. l ≡ c.args.n) c.args.lengths.now = search (rules, chains) in
    same_answer h (each-exactly c.args.n c.args.lengths.now)

-- `normal::table::next_sum`: what it reads from the table is the sum one place before, or with the starts exchanged.
use Rattle.std.proofs.Common.{◌≡◌, ◌+◌, ◌-◌, ◌∙◌, List, ℤ, Bor, ap, arith, rules}
use Rattle.normal.specs.Starts.{upper}
use Rattle.normal.proofs.Tables.{back_is, mirror-is}
use Rattle.normal.proofs.Upper.{upper-is, upper-alone}
use Rattle.normal.proofs.table.next_sum.Goals as goal

pub slid_sum-requires : goal.slid_sum-requires
slid_sum-requires c =
    let d : c.unwrap_or.result.now ≡ upper c.args.up c.args.lo.now = ap (λ (l : Bor (List ℤ)). l.now) c.unwrap_or.ensures ∙ upper-is c.args.up c.args.lo in
    let known = back_is c.requires (omega arith) (omega arith) in
    rw d (c.requires.strip (c.args.a - 1 + 1) (c.args.b - 1 + 1) (omega arith) (omega arith), search (rules, known))

pub returns-then-is_none : goal.returns-then-is_none
returns-then-is_none c =
    let known = mirror-is c.requires (omega arith) (omega arith) (upper-alone c.args.up c.args.lo.now (search rules)) in
    search (rules, known)

pub start_sum-requires : goal.start_sum-requires
start_sum-requires c =
    let d : c.unwrap_or-2.result.now ≡ upper c.args.up c.args.lo.now = ap (λ (l : Bor (List ℤ)). l.now) c.unwrap_or-2.ensures ∙ upper-is c.args.up c.args.lo in
    rw d (c.requires.strip c.args.a c.args.b c.requires.up_start c.requires.lo-start)

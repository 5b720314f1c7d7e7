-- m is moved up by the zeros before it, less those before 53 digits.
use Rattle.std.proofs.Common.{◌≡◌, ℕ, ◌-◌, ◌*◌, ◌%◌, ◌^◌, mod-eq_of_lt, arith}
use lib.Count.{count_leading_zeros}
use Rattle.float.proofs.root.Leading.{Leads, leads}
use Rattle.float.proofs.root.Normal.{moved}
use Rattle.float.proofs.scaled.Scaled.leading.Goals as goal

-- no digit leaves the 64 bits
kept : (m h : ℕ) → Leads m h → m * 2 ^ h % 2 ^ 64 ≡ m * 2 ^ h
kept m h l = mod-eq_of_lt (omega (arith, l.few))

pub overflow_sub-h-2 : goal.overflow_sub-h-2
overflow_sub-h-2 c = let l = leads c.args.m c.requires.0 c.requires.1 in omega (arith, l.zeros)

pub invariant_of-result : goal.invariant_of-result
invariant_of-result c =
    let l = leads c.args.m c.requires.0 c.requires.1 in
    let h = count_leading_zeros 64 c.args.m - 11 in
    record {
      full = rw (c.from.ensures, kept c.args.m h l) (record { lead = l.lead; few = l.few; low = omega (arith, l.most); high = omega arith });
    }

pub returns : goal.returns
returns c =
    let l = leads c.args.m c.requires.0 c.requires.1 in
    let h = count_leading_zeros 64 c.args.m - 11 in
    rw (c.from.ensures, kept c.args.m h l) (moved c.args.m h 1074 (omega (arith, l.most)))

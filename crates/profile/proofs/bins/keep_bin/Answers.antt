-- `profile::bins::keep_bin`: a turn fills a place, and counts it.
use Rattle.std.proofs.Common.{◌≡◌, Bool, true, false, cond, pos, ◌+◌, eqb, length, get_or, refl, ◌∙◌, w16, arith, rules, eq-eqb, ne_eqb}
use mir.Val.{bool_byte, to_z}
use Rattle.laws.specs.Sums.{total}
use Rattle.laws.proofs.Is.{again, self}
use Rattle.laws.proofs.Fill.{fill-starts, fill-turn}
use Rattle.laws.proofs.SumsN.{sum_more}
use Rattle.noise.specs.Lines.{at}
use Rattle.profile.specs.Parts.{line_count}
use Rattle.profile.proofs.Binning.{count-le}
use Rattle.profile.proofs.bins.keep_bin.Goals as goal
use Rattle.profile.proofs.bins.keep_bin.Goals.{then-hit, else-hit}

byte_is : (b : Bool) → bool_byte b ≡ cond b 1 0
byte_is true = refl
byte_is false = refl

pub loop-i-init : goal.loop-i-init
unfolding total
loop-i-init c = (fill-starts _ _, refl)

pub overflow_add-count : goal.overflow_add-count
overflow_add-count c =
    let a = c.args in
    let e = (λ k. c.loop-i.invariant.1 k + (c.from-count.ensures ∙ byte_is (eqb (get_or a.bins.now c.loop-i.i 0) a.j)) k) ∙ sum_more _ _ in
    rw e (record { fits = omega (arith, count-le (λ k. get_or a.bins.now k 0) (c.loop-i.i + 1) a.j, c.requires.few) })

pub loop-i-preserved : goal.loop-i-preserved
loop-i-preserved c =
    let a = c.args in
    let i = c.loop-i.i in
    let own : to_z w16 c.if-hit.kept-bits ≡ cond (eqb (get_or a.bins.now i 0) a.j) (at a.line.now i) (pos 0) = elim c.if-hit.branch [
      | then-hit w ↦ rw (eq-eqb _ _ w.if-hit.true) (w.kept-is ∙ (again {w = w16} (self (record { sfits = search rules }))).eq)
      | else-hit w ↦ rw (ne_eqb _ _ w.if-hit.false) w.kept-is
    ] in
    let e = (λ k. c.loop-i.invariant.1 k + (c.from-count.ensures ∙ byte_is (eqb (get_or a.bins.now i 0) a.j)) k) ∙ sum_more _ _ in
    (fill-turn _ _ _ c.loop-i.invariant.0 (search rules) own, e)

pub returns-clause-count : goal.returns-clause-count
unfolding line_count
returns-clause-count c =
    let e : c.loop-i.i ≡ length c.args.bins.now = omega arith in
    rw e at c.loop-i.invariant.1

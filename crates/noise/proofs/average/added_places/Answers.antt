-- `noise::average::added_places`: a turn stores the sum of the two noises of its column, which an i16 holds.
use Rattle.std.proofs.Common.{◌≡◌, ◌≤◌, ◌<◌, ◌*◌, ◌+ℤ◌, ℤ, ap, subst, w16, of_z, to_z, arith}
use native.Mathlib.Nat.{le_trans, le_of_eq}
use lib.Dec.{lit≤}
use lib.IntN.{nat_abs}
use Rattle.laws.proofs.Fill.{fill-turn}
use Rattle.laws.proofs.Is.{Is, again}
use Rattle.noise.specs.Lines.{noise_limit}
use Rattle.noise.proofs.Lines.{noise-le}
use Rattle.noise.proofs.Quarters.{two_is}
use Rattle.noise.proofs.average.added_places.Goals as goal

-- a noise that a call gave
small : {x z : ℤ} → x ≡ z → nat_abs z ≤ noise_limit → nat_abs x ≤ 2 * noise_limit
small e h = le_trans (le_of_eq (ap nat_abs e)) (le_trans h (lit≤ tt))

-- the machine's sum of two of them
stored : {x y a b : ℤ} → x ≡ a → y ≡ b → nat_abs a ≤ noise_limit → nat_abs b ≤ noise_limit → Is w16 (to_z w16 (of_z w16 x) +ℤ to_z w16 (of_z w16 y)) (a +ℤ b)
stored {x} {y} e d h k = subst (λ (z : ℤ). Is w16 (to_z w16 (of_z w16 x) +ℤ to_z w16 (of_z w16 y)) z) (λ j. e j +ℤ d j) (two_is x y (small e h) (small d k))

pub loop-c-preserved : goal.loop-c-preserved
loop-c-preserved c =
    let S = c.args.pair.now.seen in
    let a = rw c.requires.stride at c.noise_at-a.ensures in
    let b = rw c.requires.stride at c.noise_at-b.ensures in
    let l : c.loop-c.c < c.args.pair.now.view.width = omega (arith, c.loop-c-test.true) in
    let z = again (stored a b (noise-le (S.rows _ c.requires.upper) _ l) (noise-le (S.rows _ c.requires.lower) _ l)) in
    fill-turn _ _ _ c.loop-c.invariant c.loop-c-test.true z.eq

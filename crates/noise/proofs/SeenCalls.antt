-- What an accepted call sees: its views lie in planes that the kernels take, and of a lone plane show all of it, from what the questions tell. Assumes nothing.
use mathlib.Core.Path.{◌≡◌}
use mathlib.Core.List.{List}
use Prim.Native.Nat.{ℕ}
use Rattle.frame.specs.View.{whole}
use Rattle.frame.specs.Planes.{view_of}
use Rattle.frame.specs.Calls.{pair_refusal, gate_refusal}
use Rattle.frame.specs.declared.Shape.{Shape}
use Rattle.frame.specs.declared.view.Component.{Component}
use Rattle.frame.proofs.Accepted.{pair-call, gate-call}
use Rattle.noise.specs.Noise.{pair}
use Rattle.noise.specs.Seen.{seen, Seen}
use Rattle.noise.proofs.Accepted.{plane-of, plane-seen}
use Rattle.noise.proofs.Seen.{seen_all, seen-whole}

-- ---- a lone plane and its copy
module _ (w h depth : ℕ) (a b : List ℕ) (e : pair_refusal w h depth a b ≡ 0) where
  pub pair-seen : Seen (whole w h) a b
  pair-seen = let k = pair-call w h depth a b e in seen_all (plane-of w h depth a b k.first k.second) k.size.wide k.size.high

  pub pair-whole : seen (whole w h) a b ≡ pair a b w h
  pair-whole = let k = pair-call w h depth a b e in seen-whole (plane-of w h depth a b k.first k.second)

-- ---- a gate: the planes of the first frame, and of the second
module _ (s : Shape) (component : Component) (a b c d : List ℕ) (e : gate_refusal s component a b c d ≡ 0) where
  pub first-seen : Seen (view_of s component) a b
  first-seen = let k = gate-call s component a b c d e in plane-seen s component k.shape k.first k.second

  pub second-seen : Seen (view_of s component) c d
  second-seen = let k = gate-call s component a b c d e in plane-seen s component k.shape k.third k.fourth

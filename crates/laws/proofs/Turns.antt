-- A loop over its state, as its proof wants it: the state at its start, after a turn and at its end. By the laws of `loop`. Assumes nothing.
use mathlib.Core.Path.{◌≡◌, ◌∙◌}
use Prim.Native.Nat.{ℕ, ◌+◌, ◌≤◌, ◌<◌}
use native.Mathlib.Omega.{arith}
use Rattle.laws.specs.Loop.{loop}
use Rattle.laws.proofs.Loop.{loop-starts, loop-turn, loop-ends}

-- of the turns from a to b those before k are done, and made t of s
pub record Turned {S : Type 0} (f : ℕ → S → S) (a b : ℕ) (s : S) (k : ℕ) (t : S) : Type 0 where
  pub first : a ≤ k
  pub count : k ≤ b
  pub state : t ≡ loop a k f s

module _ {S : Type 0} (f : ℕ → S → S) (a b : ℕ) (s : S) where
  pub turned-starts : a ≤ b → Turned f a b s a s
  turned-starts h = record { first = omega arith; count = h; state = loop-starts a f s }

  pub turned_more : {k : ℕ} {t : S} (v : S) → Turned f a b s k t → k < b → v ≡ f k t → Turned f a b s (k + 1) v
  turned_more {k} {t} v h l e =
      record { first = omega (arith, h.first); count = omega arith; state = e ∙ loop-turn a k f s t h.first h.state }

  pub turned-ends : {k : ℕ} {t : S} → Turned f a b s k t → b ≤ k → t ≡ loop a b f s
  turned-ends {k} {t} h l = loop-ends a k b f s t h.count l h.state

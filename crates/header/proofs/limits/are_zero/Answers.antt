-- `header::limits::are_zero`: all bits of the bytes together are 0 where each byte is. By induction on the bytes. Assumes nothing.
use Rattle.std.proofs.Common.{◌≡◌, refl, ◌↔◌, ℕ, zero, suc, ◌<◌, List, [], ◌∷◌, length, get_or, bit_or, arith, eq-eqb, eqb-true}
use Rattle.std.specs.List.{All, fold}
use Rattle.std.specs.Int.Bits.{or_zero_l}
use Rattle.std.proofs.lemmas.Nat.{le_or_l, le_or_r}
use Rattle.std.proofs.lemmas.Grind.{common_steps}
use Rattle.header.proofs.limits.are_zero.Goals as goal

zero-is : (n : ℕ) (bs : List ℕ) → fold bit_or n bs ≡ 0 ↔ ((n ≡ 0) × All (λ b. b ≡ 0) bs)
zero-is n [] = (λ e. (e, λ k d h. absurd (omega arith)), λ h. h.0)
zero-is n (b ∷ bs) =
    let q = zero-is (bit_or n b) bs in (
      λ e. let t = q.0 e in (omega (arith, le_or_l n b), both (omega (arith, le_or_r n b)) t.1),
      λ h. let z : b ≡ 0 = h.1 zero 0 (omega arith) in q.1 (rw (h.0, z, or_zero_l 0) refl, λ k d l. h.1 (suc k) d (omega arith)),
    )
  where
    both : b ≡ 0 → All (λ b. b ≡ 0) bs → (k d : ℕ) → k < length (b ∷ bs) → get_or (b ∷ bs) k d ≡ 0
    both e h zero d l = e
    both e h (suc k) d l = h k d (omega arith)

pub returns : goal.returns
returns c =
    let bs = c.args.bytes.now in
    let e : c.fold.result ≡ fold bit_or 0 c.args.bytes.now = grind (arith, common_steps) in
    let q = zero-is 0 bs in
    rw e (λ t. (q.0 (eqb-true _ 0 t)).1, λ h. eq-eqb _ 0 (q.1 (refl, h)))

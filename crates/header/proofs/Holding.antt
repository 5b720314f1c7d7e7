-- What the writer holds: at its start, with bits more, with a byte more stored, and at its end, where the destination has the bits. Assumes nothing.
use mathlib.Core.Path.{◌≡◌, refl, sym, ◌∙◌, ap}
use mathlib.Core.Bool.{Bool, true, false, cond}
use mathlib.Core.List.{List, [], ◌++◌, append_assoc, append-nil}
use mathlib.Core.Logic.{⊎_elim}
use Prim.Native.Nat.{ℕ, ◌+◌, ◌-◌, ◌*◌, ◌/◌, ◌%◌, ◌^◌, ◌<◌, ◌≤◌}
use native.Mathlib.Omega.{arith}
use native.Mathlib.Nat.{eq-or-lt_of_le, zero-div, mod-lt}
use lib.Dec.{ltb}
use lib.Arith.{digits_lt}
use lib.Pow.{pow-add, pow_mono, pow_pos}
use lib.ListN.{length, get_or, take, drop, set, length-append, length-drop, length-set, get_or-append, get_or-eq_default, take-append-drop}
use lib.Seq.{ext_get_or, get_or-take, get_or-drop, get_or-append-add, get_or-set_same, get_or-set_other, set_out, drop-drop, drop-append-le, take-append-le, take-length, length-take-le}
use borrow.Author.Tests.{ltb-true, ltb-false, lt-ltb, le-ltb}
use Rattle.std.proofs.lemmas.Bool.{cases_lt}
use Rattle.laws.specs.Table.{tabulate}
use Rattle.laws.proofs.Table.{tabulate-same, length-tabulate, get_d_tabulate}
use Rattle.header.specs.Bits.{digits, number, byte_at, packed}
use Rattle.header.specs.declared.bits.BitWriter.{BitWriter}
use Rattle.header.specs.Held.{Binary, Held, Holds, Puts}
use Rattle.header.proofs.Numbers.{number_append, binary-append, binary-drop, first-eight, after-eight, digits-length, digits-binary, digits_number}
use Rattle.header.proofs.Places.{packed-at, packed-length}

-- ---- bytes

-- a whole byte is the number that its eight bits say
byte-whole : (bs : List ℕ) (j : ℕ) → 8 * j + 8 ≤ length bs → byte_at bs j ≡ number (take 8 (drop (8 * j) bs))
unfolding byte_at
byte-whole bs j h =
    let l : length (take 8 (drop (8 * j) bs)) ≡ 8 = length-take-le 8 (drop (8 * j) bs) (rw (length-drop (8 * j) bs) (omega arith)) in
    ap number
    (ext_get_or 0 (tabulate 8 (λ k. get_or bs (8 * j + k) 0)) (take 8 (drop (8 * j) bs)) (sym l)
    (λ i q. get_d_tabulate 8 (λ k. get_or bs (8 * j + k) 0) i 0 q ∙ sym (get_or-take 8 (drop (8 * j) bs) i 0 q ∙ get_or-drop (8 * j) bs i 0)))

-- bits that go on with others change no whole byte
byte_more : (bs more : List ℕ) (j : ℕ) → 8 * j + 8 ≤ length bs → byte_at (bs ++ more) j ≡ byte_at bs j
unfolding byte_at
byte_more bs more j h =
    ap number (tabulate-same 8 (λ k. get_or (bs ++ more) (8 * j + k) 0) (λ k. get_or bs (8 * j + k) 0) (λ k q. get_or-append bs more 0 (8 * j + k) (omega arith)))

-- the destination with n bytes of the bits: they, and those past them
module _ (bs from : List ℕ) (n : ℕ) (h : 8 * n ≤ length bs) (j : ℕ) (l : j < length from) where
  first : length (take (8 * n) bs) ≡ 8 * n
  first = length-take-le (8 * n) bs h

  byte-done : j < n → get_or (packed (take (8 * n) bs) from) j 0 ≡ byte_at bs j
  byte-done q =
      packed-at (take (8 * n) bs) from j l
      ∙ rw (first, lt-ltb (8 * j) (8 * n) (omega arith)) (sym (byte_more (take (8 * n) bs) (drop (8 * n) bs) j (omega (arith, first))))
      ∙ ap (λ (b : List ℕ). byte_at b j) (take-append-drop (8 * n) bs)

  byte-kept : n ≤ j → get_or (packed (take (8 * n) bs) from) j 0 ≡ get_or from j 0
  byte-kept q = packed-at (take (8 * n) bs) from j l ∙ rw (first, le-ltb (8 * j) (8 * n) (omega arith))

-- ---- the start

pub held_none : (d : List ℕ) → Held d [] 0 0 0 d
unfolding number
held_none d = record { binary = tt; place = refl; rest = refl; done = nothing }
  where
    nothing : d ≡ packed [] d
    nothing = ext_get_or 0 d (packed [] d) (sym (packed-length [] d)) (λ j l. sym (byte-kept [] d 0 (omega arith) j l (omega arith)))

-- ---- bits more, as a number

module _ {from bs : List ℕ} {at count pending : ℕ} {d : List ℕ} (h : Held from bs at count pending d) where
  reach : 8 * at ≤ length bs
  reach = omega (arith, h.place)

  pub held_more : (n v : ℕ) → Held from (bs ++ digits n v) at (count + n) (pending * 2 ^ n + v % 2 ^ n) d
  held_more n v =
      record {
        binary = binary-append bs (digits n v) h.binary (digits-binary n v);
        place = omega (arith, h.place, length-append bs (digits n v), digits-length n v);
        rest =
            rw (
              drop-append-le (8 * at) bs (digits n v) reach,
              number_append (drop (8 * at) bs) (digits n v),
              digits-length n v,
              digits_number n v,
              h.rest,
            );
        done = rw (take-append-le (8 * at) bs (digits n v) reach) h.done;
      }

-- ---- the numbers on the way

pub put_low : (count pending n v p : ℕ) → count < 8 → pending < 2 ^ count → n ≤ 8 → p ≡ 2 ^ n
    → (pending * p + v % p < 2 ^ (count + n)) × (2 ^ (count + n) ≤ 2 ^ 15)
put_low count pending n v p h l m e =
    (rw (e, pow-add 2 count n) (digits_lt l (mod-lt v (pow_pos n))), pow_mono (let k : count + n ≤ 15 = omega arith in k))

-- ---- a byte more

module _ {from bs : List ℕ} {at pending : ℕ} {d : List ℕ} (rest : ℕ) (h : Held from bs at (rest + 8) pending d) where
  tail : length (drop (8 * at) bs) ≡ rest + 8
  tail = length-drop (8 * at) bs ∙ omega (arith, h.place)

  bits : Binary (drop (8 * at) bs)
  bits = binary-drop (8 * at) bs h.binary

  byte-is : pending / 2 ^ rest ≡ byte_at bs at
  byte-is =
      rw (h.rest, byte-whole bs at (omega (arith, h.place))) (first-eight (drop (8 * at) bs) rest bits tail)

  rest-is : pending % 2 ^ rest ≡ number (drop (8 * (at + 1)) bs)
  rest-is =
      let e : 8 * (at + 1) ≡ 8 * at + 8 = omega arith in
      rw (h.rest, e, ← drop-drop 8 (8 * at) bs) (after-eight (drop (8 * at) bs) rest bits tail)

  long : length d ≡ length from
  long = rw h.done (packed-length (take (8 * at) bs) from)

  fewer : 8 * at ≤ length bs
  fewer = omega (arith, h.place)

  more : 8 * (at + 1) ≤ length bs
  more = omega (arith, h.place)

  abbrev stored : List ℕ
  stored = set d at (pending / 2 ^ rest)

  -- each byte of it: one before the one stored, that one, or one past it
  stored_at : (j : ℕ) → j < length from → get_or stored j 0 ≡ get_or (packed (take (8 * (at + 1)) bs) from) j 0
  stored_at j l = ⊎_elim before (λ (k : at ≤ j). ⊎_elim here past (eq-or-lt_of_le k)) (cases_lt j at)
    where
      before : j < at → get_or stored j 0 ≡ get_or (packed (take (8 * (at + 1)) bs) from) j 0
      before k =
          get_or-set_other d at j (pending / 2 ^ rest) 0 (λ e. absurd (omega arith))
          ∙ rw h.done (byte-done bs from at fewer j l k)
          ∙ sym (byte-done bs from (at + 1) more j l (omega arith))

      here : at ≡ j → get_or stored j 0 ≡ get_or (packed (take (8 * (at + 1)) bs) from) j 0
      here k =
          ap (λ (i : ℕ). get_or stored i 0) (sym k)
          ∙ get_or-set_same d at (pending / 2 ^ rest) 0 (omega (arith, long))
          ∙ byte-is
          ∙ ap (byte_at bs) k
          ∙ sym (byte-done bs from (at + 1) more j l (omega arith))

      past : at < j → get_or stored j 0 ≡ get_or (packed (take (8 * (at + 1)) bs) from) j 0
      past k =
          get_or-set_other d at j (pending / 2 ^ rest) 0 (λ e. absurd (omega arith))
          ∙ rw h.done (byte-kept bs from at fewer j l (omega arith))
          ∙ sym (byte-kept bs from (at + 1) more j l (omega arith))

  stored-is : stored ≡ packed (take (8 * (at + 1)) bs) from
  stored-is =
      ext_get_or 0 stored (packed (take (8 * (at + 1)) bs) from)
      (length-set d at (pending / 2 ^ rest) ∙ long ∙ sym (packed-length (take (8 * (at + 1)) bs) from))
      (λ j q. stored_at j (omega (arith, q, length-set d at (pending / 2 ^ rest), long)))

  -- the count of bytes, as the machine adds
  pub next : length bs < 2 ^ 64 → (at + 1) % 2 ^ 64 ≡ at + 1
  next l = omega (arith, h.place)

  -- where there is a byte at `at`, and where there is none
  pub held-stored : Held from bs (at + 1) rest (pending % 2 ^ rest) stored
  held-stored = record { binary = h.binary; place = omega (arith, h.place); rest = rest-is; done = stored-is }

  pub held-past : length d ≤ at → Held from bs (at + 1) rest (pending % 2 ^ rest) d
  held-past l = rw (set_out d at (pending / 2 ^ rest) l) at held-stored

-- ---- the end

-- zeros past the end change no bit and no byte
zero-digit : (n k : ℕ) → get_or (digits n 0) k 0 ≡ 0
unfolding digits
zero-digit n k = go (ltb k n) refl
  where
    go : (t : Bool) → ltb k n ≡ t → get_or (tabulate n (λ i. 0 / 2 ^ (n - 1 - i) % 2)) k 0 ≡ 0
    go true e = get_d_tabulate n (λ i. 0 / 2 ^ (n - 1 - i) % 2) k 0 (ltb-true k n e) ∙ rw (zero-div (2 ^ (n - 1 - k)))
    go false e = get_or-eq_default (tabulate n (λ i. 0 / 2 ^ (n - 1 - i) % 2)) 0 (rw (length-tabulate n (λ i. 0 / 2 ^ (n - 1 - i) % 2)) (ltb-false k n e))

fill-bit : (bs : List ℕ) (n i : ℕ) → get_or (bs ++ digits n 0) i 0 ≡ get_or bs i 0
fill-bit bs n i = go (ltb i (length bs)) refl
  where
    go : (t : Bool) → ltb i (length bs) ≡ t → get_or (bs ++ digits n 0) i 0 ≡ get_or bs i 0
    go true e = get_or-append bs (digits n 0) 0 i (ltb-true i (length bs) e)
    go false e =
        let l = ltb-false i (length bs) e in
        let s : i ≡ length bs + (i - length bs) = omega arith in
        ap (λ (k : ℕ). get_or (bs ++ digits n 0) k 0) s ∙ (get_or-append-add bs (digits n 0) (i - length bs) 0 ∙ (zero-digit n (i - length bs) ∙ sym (get_or-eq_default bs 0 l)))

fill-byte : (bs : List ℕ) (n j : ℕ) → byte_at (bs ++ digits n 0) j ≡ byte_at bs j
unfolding byte_at
fill-byte bs n j = ap number (tabulate-same 8 (λ k. get_or (bs ++ digits n 0) (8 * j + k) 0) (λ k. get_or bs (8 * j + k) 0) (λ k q. fill-bit bs n (8 * j + k)))

-- the same bytes, where they fill the last one
packed-fill : (bs from : List ℕ) (n m : ℕ) → n < 8 → 8 * m ≡ length bs + n → packed (bs ++ digits n 0) from ≡ packed bs from
unfolding packed
packed-fill bs from n m l e =
    tabulate-same (length from) (λ j. cond (ltb (8 * j) (length (bs ++ digits n 0))) (byte_at (bs ++ digits n 0) j) (get_or from j 0)) (λ j. cond (ltb (8 * j) (length bs)) (byte_at bs j) (get_or from j 0)) (λ j q. rw (fill-byte bs n j, length-append bs (digits n 0), digits-length n 0, reached j))
  where
    reached : (j : ℕ) → ltb (8 * j) (length bs + n) ≡ ltb (8 * j) (length bs)
    reached j = ⊎_elim (λ (k : 8 * j < length bs). rw (lt-ltb (8 * j) (length bs + n) (omega arith), lt-ltb (8 * j) (length bs) k) refl) (λ (k : length bs ≤ 8 * j). rw (le-ltb (8 * j) (length bs + n) (omega (arith, e, l)), le-ltb (8 * j) (length bs) k) refl) (cases_lt (8 * j) (length bs))

-- all of them, and zeros to the end of the last byte
held-packed : {from : List ℕ} (w : BitWriter) (bs : List ℕ) (n : ℕ) → n < 8 → w.cursor.count ≡ 0 → Holds from (bs ++ digits n 0) w → w.bytes.now ≡ packed bs from
held-packed {from} w bs n l z h =
    let e : 8 * w.cursor.at ≡ length (bs ++ digits n 0) = omega (arith, h.place) in
    rw (e, take-length (bs ++ digits n 0)) at h.done ∙ packed-fill bs from n w.cursor.at l (omega (arith, e, length-append bs (digits n 0), digits-length n 0))

-- ---- one put after another

pub puts-none : {w : BitWriter} → Puts [] w w
puts-none = record { same = refl; put = λ from bs l h. rw (append-nil bs) h }

pub puts_then : {a b : List ℕ} {u v w : BitWriter} → Puts a u v → Puts b v w → Puts (a ++ b) u w
puts_then {a} {b} h k =
    record {
      same = k.same ∙ h.same;
      put =
          λ from bs l q.
          let s : length ((bs ++ a) ++ b) < 2 ^ 64 = rw (append_assoc bs a b) l in
          rw (← append_assoc bs a b) (k.put from (bs ++ a) s (h.put from bs (omega (arith, s, length-append (bs ++ a) b)) q));
    }

-- all bits, and zeros to the end of the last byte
pub puts-packed : {from : List ℕ} (u v w : BitWriter) (bs : List ℕ) → length bs < 2 ^ 32 → Holds from [] u → Puts bs u v → Puts (digits ((8 - v.cursor.count) % 8) 0) v w → w.bytes.now ≡ packed bs from
puts-packed {from} u v w bs l s a z =
    let n = (8 - v.cursor.count) % 8 in
    let h = a.put from [] (omega arith) s in
    let k = z.put from bs (omega (arith, length-append bs (digits n 0), digits-length n 0)) h in
    held-packed w bs n (omega arith) (omega (arith, h.place, k.place, length-append bs (digits n 0), digits-length n 0, v.cursor.short, w.cursor.short)) k

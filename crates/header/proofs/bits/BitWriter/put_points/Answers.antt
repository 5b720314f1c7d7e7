-- `BitWriter::put_points`: each turn puts a value and a scaling more. Assumes nothing.
use Rattle.std.proofs.Common.{◌≡◌, refl, sym, ◌∙◌, ◌+◌, ◌≤◌, ◌++◌, ◌∷◌, [], length, take, min, arith, length-append, ⊎_elim}
use Rattle.header.specs.Text.{point}
use Rattle.header.proofs.Putting.{next_place, part-length, part-place, part-ended, puts-start, points-more, points-done}
use Rattle.header.proofs.bits.BitWriter.put_points.Goals as goal

pub loop-value-init : goal.loop-value-init
loop-value-init c =
    let p = c.args.list.now in
    let z = c.zip-value-items.ensures in
    rw c.into_iter-value-iterator.ensures.into_iter_gives (record {
      put = puts-start (point c.args.n p.values.now p.scalings.now);
      within = omega arith;
      values = rw z.first (c.iter.ensures.rest ∙ c.parted.ensures.first);
      scalings = z.second.0 ∙ c.parted-2.ensures.first;
    })

pub loop-value-preserved : goal.loop-value-preserved
loop-value-preserved c =
    let A = c.args in
    let p = A.list.now in
    let L = c.loop-value in
    let s = c.in-Some.ensures.steps in
    let k = length L.yielded in
    let v = next_place (take (min A.n (length p.values.now)) p.values.now) k (sym L.invariant.values ∙ s.0) in
    let t = next_place (take (min A.n (length p.scalings.now)) p.scalings.now) k (sym L.invariant.scalings ∙ s.1) in
    let long = part-length A.n p.values.now refl in
    let more : length (L.yielded ++ ((c.in-Some.value, c.in-Some.scaling) ∷ [])) ≡ k + 1 = length-append L.yielded ((c.in-Some.value, c.in-Some.scaling) ∷ []) in
    rw more (record {
      put = points-more A.n p.values.now p.scalings.now k (omega (arith, long)) L.invariant.put (rw (c.from.ensures, v.1, part-place A.n p.values.now refl k v.0) at c.put.ensures) (rw (c.from-in-loop-value.ensures, t.1, part-place A.n p.scalings.now refl k t.0) at c.put-in-loop-value.ensures);
      within = omega (arith, long);
      values = v.2;
      scalings = t.2;
    })

pub returns : goal.returns
returns c =
    let A = c.args in
    let p = A.list.now in
    let L = c.loop-value in
    let k = length L.yielded in
    let values = λ (e : length L.value-iterator.a.rest.now ≡ 0). part-ended A.n p.values.now k (rw L.invariant.values at e) in
    let scalings = λ (e : length L.value-iterator.b.rest.now ≡ 0). rw p.paired at (part-ended A.n p.scalings.now k (rw L.invariant.scalings at e)) in
    let end : min A.n (length p.values.now) ≤ k = ⊎_elim (λ q. values q.1.0) (λ q. scalings q.1.0) c.in-None.ensures.steps in
    points-done A.n p.values.now p.scalings.now k end (omega arith) L.invariant.put

-- A read of an accepted plane is what its samples hold at the place, which lies in the plane if it has samples.
use Rattle.std.proofs.Common.{◌≡◌, ◌+◌, ◌*◌, ◌≤◌, refl, sym, ap, ◌∙◌, arith, w32}
use Rattle.std.proofs.lemmas.Grind.{common_steps}
use Rattle.std.proofs.lemmas.Int.{to_z-of_z}
use Rattle.laws.specs.Limits.{side_limit}
use Rattle.frame.proofs.Accepted.{plane-call}
use Rattle.frame.proofs.FirstNo.{number-above}
use Rattle.plane_reader.specs.Read.{held_at}
use Rattle.plane_reader.proofs.Answers.{place-le, option_copied-get, refused, found}
use Rattle.plane_reader.proofs.PlaneReader.get.Goals as goal

pub returns-in_err-ask_plane : goal.returns-in_err-ask_plane
returns-in_err-ask_plane c =
    let a = c.args in
    let p = a.self in
    let h = refused p.samples.now p.rows p.cols a.row a.col c.in_err-ask_plane.ensures (number-above _) in
    grind (arith, common_steps, h)

-- the row and the column that are read
row_is : (c : goal.After-held_at-c) → c.held_at-r.result ≡ held_at c.args.self.rows c.args.row
row_is c = c.held_at-r.ensures ∙ ap (held_at c.args.self.rows) (to_z-of_z w32 c.args.row c.ranges.row)

col_is : (c : goal.After-held_at-c) → c.held_at-c.result ≡ held_at c.args.self.cols c.args.col
col_is c = c.held_at-c.ensures ∙ ap (held_at c.args.self.cols) (to_z-of_z w32 c.args.col c.ranges.col)

fits : (c : goal.After-held_at-c) → c.held_at-r.result * c.args.self.cols + c.held_at-c.result ≤ side_limit * side_limit + side_limit
fits c =
    let k = plane-call _ _ _ _ (sym c.in_ok-ask_plane.ensures) in
    rw (row_is c, col_is c) (place-le c.args.self.rows c.args.self.cols c.args.row c.args.col k.size.high k.size.wide)

pub overflow_mul-i : goal.overflow_mul-i
overflow_mul-i c = omega (arith, fits c)

pub overflow_add-i : goal.overflow_add-i
overflow_add-i c = omega (arith, fits c)

pub returns : goal.returns
returns c =
    let a = c.args in
    let p = a.self in
    let k = plane-call _ _ _ _ (sym c.in_ok-ask_plane.ensures) in
    rw (c.copied.ensures, option_copied-get p.samples.now _ _ c.get.ensures.lookup.3, row_is c.before.before, col_is c.before.before) (found p.samples.now p.rows p.cols a.row a.col c.in_ok-ask_plane.ensures refl k.source)

-- `normal::tap::tap_sums`: a row more; both components have its averages; the sums of all rows are those of what the geometry shows.
use Rattle.std.proofs.Common.{◌-◌, refl, ◌∙◌, w64, to_z, rules}
use Rattle.positions.specs.Counts.{factors}
use Rattle.laws.proofs.Is.{fits, again}
use Rattle.normal.proofs.Sizes.{Zeros}
use Rattle.normal.proofs.TapSums.{TapsHeld, held_none, average-room, squares-turn, component-add, component-more, held_all}
use Rattle.normal.proofs.tap.tap_sums.Goals as goal

pub loop-r-init : goal.loop-r-init
loop-r-init c =
    let lag = c.args.frame.now.lag.reach in
    let cb : Zeros (factors lag) c.fill.new.self = search rules in
    let cr : Zeros (factors lag) c.fill-2.new.self = search rules in
    (search rules, held_none c.args.frame.now.shown c.args.frame.now.window cb cr)

pub average_squares-squares-requires : goal.average_squares-squares-requires
average_squares-squares-requires c =
    let H = c.loop-r.invariant in
    average-room c.args.frame.now.shown c.args.frame.now.window c.loop-r.r (rw (c.rows-r-end.ensures, c.cb-cb.ensures.0, c.cb-cb.ensures.1) at c.loop-r-test.true) H.0

pub add_taps-requires : goal.add_taps-requires
add_taps-requires c =
    let F = c.args.frame.now.shown in
    let H = c.loop-r.invariant in
    rw (c.cb-cb.ensures.0, c.cb-cb.ensures.1)
    (component-add F c.args.frame.now.window c.loop-r.r (rw (c.rows-r-end.ensures, c.cb-cb.ensures.0, c.cb-cb.ensures.1) at c.loop-r-test.true) F.cb refl H.1.cb-are c.average_squares-squares.ensures.averages-are)

pub overflow_add-squares : goal.overflow_add-squares
overflow_add-squares c =
    fits (squares-turn c.args.frame.now.shown c.args.frame.now.window c.loop-r.r (rw (c.rows-r-end.ensures, c.cb-cb.ensures.0, c.cb-cb.ensures.1) at c.loop-r-test.true) c.average_squares-squares.result c.loop-r.invariant.1.squares-are c.average_squares-squares.ensures.squares-are)

pub add_taps-requires-in-loop-r : goal.add_taps-requires-in-loop-r
add_taps-requires-in-loop-r c =
    let F = c.args.frame.now.shown in
    let H = c.loop-r.invariant in
    rw (c.cr-cr.ensures.0, c.cr-cr.ensures.1)
    (component-add F c.args.frame.now.window c.loop-r.r (rw (c.rows-r-end.ensures, c.cb-cb.ensures.0, c.cb-cb.ensures.1) at c.loop-r-test.true) F.cr F.alike H.1.cr-are c.average_squares-squares.ensures.averages-are)

pub loop-r-preserved : goal.loop-r-preserved
loop-r-preserved c =
    let F = c.args.frame.now.shown in
    let W = c.args.frame.now.window in
    let H = c.loop-r.invariant in
    let r = c.loop-r.r in
    let t = rw (c.rows-r-end.ensures, c.cb-cb.ensures.0, c.cb-cb.ensures.1) at c.loop-r-test.true in
    let S = c.average_squares-squares in
    let A = S.ensures in (
      S.auto.averages ∙ H.0,
      record {
        squares-are = (again (squares-turn F W r t S.result H.1.squares-are A.squares-are)).eq;
        cb-are = component-more F W r t F.cb refl H.1.cb-are A.averages-are (rw (c.cb-cb.ensures.0, c.cb-cb.ensures.1) at c.add_taps.ensures);
        cr-are = component-more F W r t F.cr F.alike H.1.cr-are A.averages-are (rw (c.cr-cr.ensures.0, c.cr-cr.ensures.1) at c.add_taps-in-loop-r.ensures);
      },
    )

pub returns : goal.returns
returns c =
    let W = c.args.frame.now in
    let all : TapsHeld W.shown W.lag.reach (W.shown.cb.view.height - W.lag.reach) (to_z w64 c.loop-r.squares-bits) c.loop-r.cbtaps c.loop-r.crtaps = search rules in
    held_all {f = W.shown} W.window all refl

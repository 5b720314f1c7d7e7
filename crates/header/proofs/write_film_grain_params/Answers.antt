-- `header::write_film_grain_params`: each question in its turn, then the bits. Assumes nothing.
use Rattle.std.proofs.Common.{◌∙◌, arith}
use Rattle.std.proofs.lemmas.Result.{err_from_is_err_and}
use Rattle.header.specs.Format.{format_number}
use Rattle.header.specs.Stored.{stored}
use Rattle.header.proofs.Answers.{refused-4, refused-10, refused-11, answered, size-counts}
use Rattle.header.proofs.write_film_grain_params.Goals as goal

pub returns-in_err-try_from : goal.returns-in_err-try_from
returns-in_err-try_from c =
    let A = c.args in
    let e = err_from_is_err_and c.from_residual.result c.from_residual.ensures.1 in
    rw (e.1, e.2) (refused-4 (stored A.p.now) A.inter A.format A.dst.now _ c.in_err-try_from.ensures)

pub returns-in_err-ask : goal.returns-in_err-ask
returns-in_err-ask c =
    let A = c.args in
    let n = c.new-header.ensures in
    let f = c.in_ok-try_from.ensures in
    let e = err_from_is_err_and c.from_residual-in_err-ask.result c.from_residual-in_err-ask.ensures.1 in
    rw (e.1, e.2)
    (refused-10 (stored A.p.now) A.inter A.format A.dst.now _ f _ (rw (c.is_allowed.ensures, n.0, n.1, n.2, f) at c.in_err-ask.ensures))

pub returns-in_err-ask-2 : goal.returns-in_err-ask-2
returns-in_err-ask-2 c =
    let A = c.args in
    let n = c.new-header.ensures in
    let h = c.new-header.result in
    let f = c.in_ok-try_from.ensures in
    let e = err_from_is_err_and c.from_residual-in_err-ask-2.result c.from_residual-in_err-ask-2.ensures.1 in
    let s = rw (n.0, n.1, n.2, f) at (c.size-bits.ensures.0 ∙ size-counts h.fields h.bytes.now h.inter (format_number h.format) h.counts h.read h.counted) in
    rw (e.1, e.2)
    (refused-11 (stored A.p.now) A.inter A.format A.dst.now _ f
    (rw (c.is_allowed.ensures, n.0, n.1, n.2, f) at c.in_ok-ask.ensures) _ s _
    c.in_err-ask-2.ensures (omega arith))

pub returns : goal.returns
returns c =
    let A = c.args in
    let n = c.new-header.ensures in
    let h = c.new-header.result in
    let f = c.in_ok-try_from.ensures in
    let s = rw (n.0, n.1, n.2, f) at (c.size-bits.ensures.0 ∙ size-counts h.fields h.bytes.now h.inter (format_number h.format) h.counts h.read h.counted) in
    answered (stored A.p.now) A.inter A.format A.dst.now _ f
    (rw (c.is_allowed.ensures, n.0, n.1, n.2, f) at c.in_ok-ask.ensures) _ s
    c.in_ok-ask-2.ensures (omega arith)
    (rw (n.0, n.1, n.2, f) at c.put.ensures)

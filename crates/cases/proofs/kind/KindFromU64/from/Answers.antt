-- `cases::kind::KindFromU64::from`: of 16 noises there is one at each remainder.
use Rattle.std.proofs.Common.{rules, ◌%◌, arith}
use Rattle.std.proofs.lemmas.Option.{slice_get-get_or}
use Rattle.cases.specs.declared.kind.TheConstants.Noise.{ALL as noises}
use Rattle.cases.proofs.kind.KindFromU64.from.Goals as goal

pub returns : goal.returns
returns c = (slice_get-get_or noises (c.args.number % 16) _ (omega arith), search rules, search rules)

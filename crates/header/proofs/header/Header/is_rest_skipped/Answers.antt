-- `Header::is_rest_skipped`: its bytes are all that the rows store. Assumes nothing.
use Rattle.std.proofs.Common.{arith}
use Rattle.header.proofs.Bytes.{rest-decided}
use Rattle.header.proofs.header.Header.is_rest_skipped.Goals as goal

pub returns : goal.returns
returns c = λ format. rest-decided c.args.self.now.bytes.now format (omega arith) c.are_zero.ensures

-- `header::bits::BitWriter::new`: no bits are held. Assumes nothing.
use Rattle.header.proofs.Holding.{held_none}
use Rattle.header.proofs.bits.BitWriter.new.Goals as goal

pub returns-clause-held : goal.returns-clause-held
returns-clause-held c = held_none c.args.bytes.now

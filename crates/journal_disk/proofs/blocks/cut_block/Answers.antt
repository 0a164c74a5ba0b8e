use Rattle.std.proofs.Common.{arith}
use Rattle.journal_disk.proofs.OneBlock.{block_made}
use Rattle.journal_disk.proofs.blocks.cut_block.Goals as goal

pub returns : goal.returns
returns c = block_made c.args.bytes.now c.from_be_bytes-size.result c.in-len5-up.len_at_least (λ i. omega (arith, c.type_inv.bytes i)) c.if-gate-eq0.false c.from_be_bytes-size.ensures c.if-size-behind.false

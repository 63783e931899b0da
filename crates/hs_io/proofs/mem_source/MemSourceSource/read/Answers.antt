use Rattle.hs_io.proofs.Copies.{front_and_rest, nothing_left}
use Rattle.hs_io.proofs.mem_source.MemSourceSource.read.Goals as goal

pub returns-clause-bytes : goal.returns-clause-bytes
returns-clause-bytes c =
    let source = c.args.self.now in
    let into = c.copy_from-count.new.into in
    let count = c.copy_from-count.result in (
      front_and_rest source.bytes.items _ into source.at count c.deref-2.ensures.value c.copy_from-count.ensures.front,
      nothing_left source.bytes.items _ into source.at source.piece count c.deref-2.ensures.value c.copy_from-count.ensures.count source.some,
    )

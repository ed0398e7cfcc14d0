use Rattle.telegram.proofs.OneKind.{one_kind}
use Rattle.telegram.proofs.Laws.{reads_back, header_reads_back, writes_back, header_writes_back, reads_sized}
use Rattle.telegram.proofs.format_laws.Goals as goal

pub returns : goal.returns
returns c =
    record {
      reads_back = reads_back;
      header_reads_back = header_reads_back;
      writes_back = writes_back;
      header_writes_back = header_writes_back;
      reads_sized = reads_sized;
      one_kind = one_kind;
    }

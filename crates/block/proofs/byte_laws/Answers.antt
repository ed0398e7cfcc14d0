use Rattle.block.proofs.Spelling.{spelled-bytes, bytes-spelled, length-bytes, all_bytes}
use Rattle.block.proofs.byte_laws.Goals as goal

pub returns : goal.returns
returns c = record { reads_back = spelled-bytes; writes_back = bytes-spelled; sixteen = length-bytes 16; bytes_are_bytes = all_bytes 16 }

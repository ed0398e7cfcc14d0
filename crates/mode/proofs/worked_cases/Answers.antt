use Rattle.std.proofs.Common.{refl}
use Rattle.block.specs.Bytes.{after, spelled, bytes}
use Rattle.block.specs.Field.{double, sum, product, power}
use Rattle.mode.specs.Hash.{weighted, poly, squared, term, hash}
use Rattle.mode.specs.Padding.{pad, factor, blocks, padded}
use Rattle.mode.specs.Sealing.{sealed_by, opened_by}
use Rattle.mode.specs.Stream.{xors, stream, count, streamed}
use Rattle.mode.proofs.worked_cases.Goals as goal

-- each by computation
pub returns : goal.returns
unfolding after spelled bytes double sum product power pad factor blocks padded weighted poly squared term hash xors stream count streamed sealed_by opened_by
returns c =
    record {
      doubling = refl;
      fifteen_bytes = refl;
      sixteen_bytes = refl;
      seventeen_bytes = refl;
      hash_of_both = refl;
      with_header = refl;
      no_header = refl;
      empty_header = refl;
      empty_message = refl;
      damaged = refl;
      zero_key = refl;
    }

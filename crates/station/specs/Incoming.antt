-- What is told of a telegram before it is opened.
use Rattle.std.specs.Prelude.{◌≡◌, ℕ, true, false, List, length}
use Rattle.block.specs.Bytes.{spelled}
use Rattle.block.specs.Num.{num}
use Rattle.telegram.specs.Format.{lengths_fit, other_version, parts}
use Rattle.telegram.specs.Header.{headed}
use Rattle.std.specs.List.{between}
use Rattle.telegram.specs.Places.{layout}
use Rattle.telegram.specs.declared.fault.TelegramFault.{TelegramFault}
use Rattle.telegram.specs.declared.fault.TelegramFault.TheVariants.{Version, Lengths}
use Rattle.telegram.specs.Kind.{kind_byte}
use Rattle.station.specs.declared.incoming.Incoming.{Incoming}

pub record Told (b : List ℕ) (i : Incoming) : Type 0 where
  pub version : other_version b ≡ false
  pub lengths : lengths_fit b ≡ true
  pub gauge : i.gauge ≡ (headed (parts b).header).gauge
  pub serial : i.serial ≡ (headed (parts b).header).serial
  pub kind : kind_byte i.kind ≡ (headed (parts b).header).kind
  pub header_len : i.sizes.header ≡ length (parts b).header
  pub message_len : i.sizes.message ≡ length (parts b).ciphertext
  pub tag : num i.tag ≡ spelled (parts b).tag
  pub places : i.places ≡ layout (length (parts b).header) (length (parts b).ciphertext)
  -- the header and the ciphertext lie at their places, of which the latter ends the buffer
  pub header : between i.places.header.start i.places.header.end b ≡ (parts b).header
  pub there : between i.places.ciphertext.start i.places.ciphertext.end b ≡ (parts b).ciphertext
  pub ends : i.places.ciphertext.end ≡ length b

abbrev pub Untold : List ℕ → TelegramFault → Type 0
Untold b Version = other_version b ≡ true
Untold b Lengths = (other_version b ≡ false) × (lengths_fit b ≡ false)

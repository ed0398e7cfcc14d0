-- What the reading of a telegram tells.
use Rattle.std.proofs.Common.{◌≡◌, ℕ, ◌+◌, Bool, true, false, cond, List, length, Ok, Err, Result, refl, arith, length-append}
use Rattle.telegram.specs.declared.fault.TelegramFault.{TelegramFault}
use Rattle.telegram.specs.declared.fault.TelegramFault.TheVariants.{Version, Lengths}
use Rattle.telegram.specs.Format.{Parts, header_sized, lengths_fit, other_version, parts, reading, written}
use Rattle.telegram.specs.Header.{Heading, headed, header_reading}

-- two tests, past which x is given
module _ {X : Type 0} (x : X) where
  past_both : (v l : Bool) (y : X) → ◌≡◌ {A = Result X TelegramFault} (cond v (Err Version) (cond l (Ok x) (Err Lengths))) (Ok y) → (v ≡ false) × (l ≡ true) × (y ≡ x)
  past_both true l y e = let z : ◌≡◌ {A = ℕ} 0 1 = cc in absurd (omega arith)
  past_both false true y e = (refl, refl, cc)
  past_both false false y e = let z : ◌≡◌ {A = ℕ} 0 1 = cc in absurd (omega arith)

  pub past_one : (l : Bool) (y : X) → ◌≡◌ {A = Result X TelegramFault} (cond l (Ok x) (Err Lengths)) (Ok y) → y ≡ x
  past_one true y e = cc
  past_one false y e = let z : ◌≡◌ {A = ℕ} 0 1 = cc in absurd (omega arith)

pub reads : (b : List ℕ) (p : Parts) → reading b ≡ Ok p → (other_version b ≡ false) × (lengths_fit b ≡ true) × (p ≡ parts b)
reads b p = past_both (parts b) (other_version b) (lengths_fit b) p

pub heads : (b : List ℕ) (h : Heading) → header_reading b ≡ Ok h → h ≡ headed b
heads b h = past_one (headed b) (header_sized (length b)) h

-- the length of what is written
pub written_long : (p : Parts) → length p.tag ≡ 16 → 21 + length p.header + length p.ciphertext ≡ length (written p)
written_long p h = simp length-append (omega arith)

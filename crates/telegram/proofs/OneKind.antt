-- Each byte is one kind.
use Rattle.std.proofs.Common.{◌≡◌, ℕ, ◌≤◌, refl, ap, subst, arith}
use Rattle.std.proofs.Math.Bridge.{le_prop}
use Rattle.telegram.specs.declared.kind.OtherKind.{OtherKind}
use Rattle.telegram.specs.declared.kind.Kind.{Kind}
use Rattle.telegram.specs.declared.kind.Kind.TheVariants.{Measurement, Key, Other}
use Rattle.telegram.specs.Kind.{kind_byte}

-- that a byte is no name's is a fact with one proof
same_other : (a b : OtherKind) → a.byte ≡ b.byte → a ≡ b
same_other a b e =
    subst (λ (n : ℕ). (unnamed : 2 ≤ n) → a ≡ record { byte = n; unnamed = unnamed }) e
    (λ unnamed. ap (λ u. record { byte = a.byte; unnamed = u }) (le_prop a.unnamed unnamed)) b.unnamed

pub one_kind : (k j : Kind) → kind_byte k ≡ kind_byte j → k ≡ j
one_kind Measurement Measurement e = refl
one_kind Key Key e = refl
one_kind (Other a) (Other b) e = ap Other (same_other a b e)
one_kind Measurement Key e = cc
one_kind Key Measurement e = cc
one_kind Measurement (Other b) e = absurd (omega arith)
one_kind Key (Other b) e = absurd (omega arith)
one_kind (Other a) Measurement e = absurd (omega arith)
one_kind (Other a) Key e = absurd (omega arith)

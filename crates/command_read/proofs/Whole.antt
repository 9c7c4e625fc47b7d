-- What is known of a command by its kind.
-- Assumes nothing.
use mathlib.Core.Path.{◌≡◌, refl, sym, subst}
use Prim.Native.Nat.{ℕ, ◌≤◌}
use native.Mathlib.Omega.{arith}
use mathlib.Core.Bool.{false}
use mathlib.Core.Logic.{◌⊎◌, inl, inr}
use mathlib.Core.List.{List}
use lib.Dec.{eqb}
use borrow.Author.Tests.{ne_eqb}
use Rattle.command.specs.declared.Kind.{Kind}
use Rattle.command.specs.declared.Kind.TheVariants.{Tray, Own, Crypt, Park, Resume, Close, Change, Load, Start}
use Rattle.command.specs.Decode.{length_of, open_of, command_of}
use Rattle.command.specs.Kinds.{kind_number}

-- a command that is whole has the bytes of its kind
pub whole : {k : Kind} (n : Kind) {size : ℕ} → k ≡ n → length_of (kind_number k) ≤ size → length_of (kind_number n) ≤ size
whole n {size} e h = subst (λ (x : Kind). length_of (kind_number x) ≤ size) e h

-- at least two
pub two_bytes : (k : Kind) {size : ℕ} → length_of (kind_number k) ≤ size → 2 ≤ size
unfolding length_of
two_bytes Tray h = omega (arith, h)
two_bytes Own h = omega (arith, h)
two_bytes Crypt h = omega (arith, h)
two_bytes Park h = h
two_bytes Resume h = omega (arith, h)
two_bytes Close h = h
two_bytes Change h = omega (arith, h)
two_bytes Load h = omega (arith, h)
two_bytes Start h = omega (arith, h)

-- so its length is not 0
pub known : (k : Kind) → eqb (length_of (kind_number k)) 0 ≡ false
known k = ne_eqb _ _ (λ z. let h : 2 ≤ 0 = two_bytes k (subst (λ (n : ℕ). length_of (kind_number k) ≤ n) z (let h : length_of (kind_number k) ≤ length_of (kind_number k) = omega arith in h)) in omega (arith, h))

-- ---- an open, with a key of the tray or its own, or a load

abbrev pub Opens : Kind → Type 0
Opens k = (k ≡ Tray) ⊎ ((k ≡ Own) ⊎ (k ≡ Load))

-- what is so of the three is so of each
each : (P : Kind → Type 0) → P Tray → P Own → P Load → (k : Kind) → Opens k → P k
each P t o l k (inl e) = subst P (sym e) t
each P t o l k (inr (inl e)) = subst P (sym e) o
each P t o l k (inr (inr e)) = subst P (sym e) l

pub open_bytes : (k : Kind) {size : ℕ} → Opens k → length_of (kind_number k) ≤ size → 4 ≤ size
unfolding length_of
open_bytes k {size} = each (λ (x : Kind). length_of (kind_number x) ≤ size → 4 ≤ size) (λ h. omega (arith, h)) (λ h. omega (arith, h)) (λ h. h) k

pub opens : (k : Kind) (s : List ℕ) → Opens k → command_of (kind_number k) s ≡ open_of (kind_number k) s
unfolding command_of
opens k s = each (λ (x : Kind). command_of (kind_number x) s ≡ open_of (kind_number x) s) refl refl refl k

pub not_one : (k : Kind) → (k ≡ Tray → ⊥) → eqb (kind_number k) 1 ≡ false
not_one Tray f = absurd (f refl)
not_one Own f = refl
not_one Crypt f = refl
not_one Park f = refl
not_one Resume f = refl
not_one Close f = refl
not_one Change f = refl
not_one Load f = refl
not_one Start f = refl

pub not_two : (k : Kind) → (k ≡ Own → ⊥) → eqb (kind_number k) 2 ≡ false
not_two Tray f = refl
not_two Own f = absurd (f refl)
not_two Crypt f = refl
not_two Park f = refl
not_two Resume f = refl
not_two Close f = refl
not_two Change f = refl
not_two Load f = refl
not_two Start f = refl

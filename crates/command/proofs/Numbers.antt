-- The number of a result: 0 exactly where it is accepted, since no refusal has the number 0.
-- Assumes nothing.
use mathlib.Core.Path.{◌≡◌, refl}
use native.Mathlib.Omega.{arith}
use lib.Dec.{T, leb, leb→le}
use Rattle.std.specs.Prelude.{Result, Ok, Err}
use Rattle.command.specs.declared.Refusal.{Refusal}
use Rattle.command.specs.declared.Refusal.TheVariants.{CutShort, UnknownCommand, NoSuchLine, UnknownCipher, NotIdle, NotOpen, BeyondLength, InvalidImage, TrayLength, NoSuchKey, DataTooShort, OutTooShort, PastTheEnd, ImageNotHeld, NoParkLeft, BlankKey, ChangeWaits, ChangePosition, NotLoaded, MessageLength, NotGenuine, Damaged}
use Rattle.command.specs.Decode.{refusal_number, refusal_of}

pub accepted : {A : Type 0} (x : A) → refusal_of (Ok x) ≡ 0
accepted x = refl

not-zero : (e : Refusal) → T (leb 1 (refusal_number e))
not-zero CutShort = tt
not-zero UnknownCommand = tt
not-zero NoSuchLine = tt
not-zero UnknownCipher = tt
not-zero NotIdle = tt
not-zero NotOpen = tt
not-zero BeyondLength = tt
not-zero InvalidImage = tt
not-zero TrayLength = tt
not-zero NoSuchKey = tt
not-zero DataTooShort = tt
not-zero OutTooShort = tt
not-zero PastTheEnd = tt
not-zero ImageNotHeld = tt
not-zero NoParkLeft = tt
not-zero BlankKey = tt
not-zero ChangeWaits = tt
not-zero ChangePosition = tt
not-zero NotLoaded = tt
not-zero MessageLength = tt
not-zero NotGenuine = tt
not-zero Damaged = tt

pub refused : (e : Refusal) → refusal_number e ≡ 0 → ⊥
refused e z = let h = leb→le 1 (refusal_number e) (not-zero e) in omega (arith, h, z)

-- a result with the number 0 is accepted
pub is-accepted : {A : Type 0} (r : Result A Refusal) → refusal_of r ≡ 0 → (x : A) × (r ≡ Ok x)
is-accepted (Ok x) z = (x, refl)
is-accepted (Err e) z = absurd (refused e z)

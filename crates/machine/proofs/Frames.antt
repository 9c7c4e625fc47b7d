-- Two frames: an accepted crypt writes its data enciphered from where its line stands, so that two crypts whose lines are seen alike give each other's text back.
-- Assumes nothing.
use mathlib.Core.Path.{◌≡◌, refl, ap, ap₂, ◌∙◌}
use mathlib.Core.List.{List, [], ◌∷◌, map}
use Prim.Native.Nat.{ℕ, zero, suc}
use native.Mathlib.Omega.{arith}
use lib.ListN.{get_or, take}
use borrow.Author.Tests.{eqb-false}
use Rattle.std.specs.Prelude.{Ok}
use Rattle.ciphers.specs.Table.{cipher_at, mugi}
use Rattle.command.specs.declared.Command.TheVariants.{Crypt}
use Rattle.command.specs.Decode.{decode_of}
use Rattle.machine.specs.Machine.{Line, MLine, Machine, Seen, Call, Effect, idle, idle_line, based, enciphered, line_at, back, public, decided, decide, perform, step, card_step}
use Rattle.machine.specs.Calls.{line_on}
use Rattle.command.proofs.Rows.{not-zero}
use Rattle.machine.proofs.Rows.{decided-by}
use Rattle.machine.proofs.Codes.{of-card}
use Rattle.machine.proofs.Deciphers.{deciphered}

-- an accepted crypt of n bytes on line i
pub record Frame (c : Seen) (a : Call) (i n : ℕ) : Type 0 where
  pub read : decode_of a.command ≡ Ok (Crypt i n)
  pub accepted : (card_step c a).outcome.code ≡ 0

base-at : (ls : List Line) (i : ℕ) → get_or (map based ls) i idle ≡ based (get_or ls i idle_line)
unfolding based cipher_at mugi
base-at [] i = refl
base-at (l ∷ ls) zero = refl
base-at (l ∷ ls) (suc i) = base-at ls i

module _ (m : Machine) (a : Call) (i n : ℕ) where
  abbrev Accepts : Effect → Type 0
  Accepts e = (perform m a.text e).outcome.code ≡ 0 → (perform m a.text e).outcome.output ≡ enciphered (line_at m i) (take n a.text)

  crypted : Accepts (decided (Crypt i n) (public m) a)
  crypted =
      decided-by Accepts (λ k z e. absurd (eqb-false k 0 (not-zero k z) e)) (Crypt i n) (public m) a
      (λ p e. refl)

  stepped : decode_of a.command ≡ Ok (Crypt i n) → (step m a).outcome.code ≡ 0 → (step m a).outcome.output ≡ enciphered (line_at m i) (take n a.text)
  unfolding step decide
  stepped e = rw e crypted

wrote : (c : Seen) (a : Call) (i n : ℕ) → Frame c a i n → (card_step c a).outcome.output ≡ enciphered (line_at (back c) i) (take n a.text)
wrote c a i n f =
    of-card (λ s. s.outcome.code ≡ 0 → s.outcome.output ≡ enciphered (line_at (back c) i) (take n a.text)) c a (λ e. absurd (omega arith)) (stepped (back c) a i n f.read) f.accepted

-- What a frame writes.
pub frame_is : (c : Seen) (a : Call) (i n : ℕ) → Frame c a i n → (card_step c a).outcome.output ≡ enciphered (based (line_on c i)) (take n a.text)
frame_is c a i n f = wrote c a i n f ∙ ap (λ (l : MLine). enciphered l (take n a.text)) (base-at c.lines i)

-- Two crypts, on whatever cards and lines, whose lines are seen alike (mode, cipher, position and state, as after an open with the same key and IV and as many bytes, or after a resume): the
-- second, of what the first wrote, writes the first's data.
pub frames-back : (c d : Seen) (a b : Call) (i j n : ℕ) → Frame c a i n → Frame d b j n → line_on d j ≡ line_on c i → take n b.text ≡ (card_step c a).outcome.output →
    (card_step d b).outcome.output ≡ take n a.text
frames-back c d a b i j n f g e t =
    frame_is d b j n g
    ∙ ap₂ (λ (l : Line) (x : List ℕ). enciphered (based l) x) e (t ∙ frame_is c a i n f)
    ∙ deciphered (based (line_on c i)) (take n a.text)

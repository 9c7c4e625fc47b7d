-- A cipher's crypt over its state is its row's over a line's words: a state's words hold it, and the words' Next and Strm are the state's. Said once for any two generators, and of any cipher by
-- what it fills.
-- Assumes nothing.
use mathlib.Core.Path.{◌≡◌, refl, ap, sym, subst, ◌∙◌}
use mathlib.Core.Bool.{true}
use mathlib.Core.List.{List, ◌++◌}
use Prim.Native.Nat.{ℕ, ◌+◌, ◌-◌, ◌/◌}
use lib.ListN.{length, get_or, drop, replicate, length-drop}
use Rattle.words.specs.Lists.{Word}
use Rattle.words.proofs.Ranges.{all_known}
use Rattle.keystream.specs.Stream.{Gen, state_at, byte_at, xor_from}
use Rattle.keystream.proofs.Laws.{xor_from-agree}
use Rattle.keystream.proofs.Parts.{state_at-along, byte_at-along}
use Rattle.ciphers.specs.States.{state_words}
use Rattle.ciphers.specs.Table.{CipherRow, Interface, row_of, zeros_from}
use Rattle.ciphers.specs.Fit.{Fit}
use Rattle.ciphers.proofs.States.{zeros_of}
use Rattle.ciphers.proofs.Sound.{Laws}

-- what a crypt gives, as two equations
abbrev pub Gives : {S : Type 0} → Gen S → S → ℕ → List ℕ → List ℕ → S → List ℕ → Type 0
Gives g s skip text out s' out' =
    (s' ≡ state_at g s 0 ((skip + length text) / g.unit)) × (out' ≡ xor_from (byte_at g s 0) skip text ++ drop (length text) out)

module _ {S T : Type 0} (g : Gen S) (h : Gen T) (f : S → T) (P : S → Type 0) (keeps : (s : S) → P s → P (g.next s))
    (same-unit : g.unit ≡ h.unit) (same_next : (s : S) → P s → f (g.next s) ≡ h.next (f s)) (same-strm : (s : S) → P s → g.strm s ≡ h.strm (f s)) where
  gives_along : (skip : ℕ) (text out : List ℕ) {s₀ s s' : S} {w w' : T} {out' : List ℕ} → P s₀ → f s₀ ≡ w → s ≡ s₀ → w' ≡ f s' → Gives g s skip text out s' out'
      → Gives h w skip text out w' out'
  gives_along skip text out {s₀} {s} {s'} {w} p₀ e₀ q q' d =
      let p : P s = subst P (sym q) p₀ in
      let e : f s ≡ w = ap f q ∙ e₀ in (
        q'
            ∙ ap f d.0
            ∙ state_at-along g h f P keeps same-unit same_next same-strm s 0 _ p
            ∙ ap (λ (x : T). state_at h x 0 ((skip + length text) / g.unit)) e
            ∙ ap (λ (u : ℕ). state_at h w 0 ((skip + length text) / u)) same-unit,
        d.1
            ∙ ap (λ (x : List ℕ). x ++ drop (length text) out)
            (xor_from-agree (byte_at g s 0) (byte_at h w 0) skip skip text
            (λ i _. byte_at-along g h f P keeps same-unit same_next same-strm s 0 (skip + i) p ∙ ap (λ (x : T). byte_at h x 0 (skip + i)) e)),
      )

-- a cipher's crypt over its state is its row's over the words
module _ {S : Type 0} (i : Interface S) (P : S → Type 0) (l : Laws i P) where
  pub row-along : (skip : ℕ) (text out : List ℕ) {w w' : List ℕ} {s s' : S} {out' : List ℕ} → Fit (row_of i) w → s ≡ i.from_words w → w' ≡ i.to_words s'
      → Gives i.gen s skip text out s' out' → Gives (row_of i).gen w skip text out w' out'
  row-along skip text out {w} h q q' d =
      gives_along i.gen (row_of i).gen i.to_words P l.next-range refl (λ s r. ap (λ (x : S). i.to_words (i.gen.next x)) (sym (l.read_back s r)))
      (λ s r. ap i.gen.strm (sym (l.read_back s r))) skip text out (l.range w h) (l.held w h) q q' d

-- ---- a line's words, as they are lent

pub lent-fit : (w : List ℕ) {d : CipherRow} → ((i : ℕ) → Word (get_or w i 0)) → length w ≡ state_words → d.admits w ≡ true → Fit d w
lent-fit w f e h = record { full = e; words = all_known Word w f; admitted = h }

-- a state's own words put before the padding of a line's are the state's with zeros after them
pub padded : (k : ℕ) (own w : List ℕ) → length w ≡ state_words → zeros_from k w ≡ true → own ++ drop k w ≡ own ++ replicate (state_words - k) 0
padded k own w e h = ap (λ (l : List ℕ). own ++ l) (zeros_of (drop k w) h ∙ ap (λ (n : ℕ). replicate n 0) (length-drop k w ∙ ap (λ (n : ℕ). n - k) e))

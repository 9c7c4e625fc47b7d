-- A list whose entries are f's is the table of f. So every list of 256 products is the table of its polynomial and its multiplier, and SUB is the
-- substitution over AES's polynomial.
-- Assumes nothing.
use mathlib.Core.Path.{◌≡◌, refl, ap, sym, ◌∙◌}
use mathlib.Core.List.{List, [], ◌∷◌, ◌++◌, append-nil}
use Prim.Native.Nat.{ℕ, suc, ◌+◌, ◌<◌}
use native.Mathlib.Omega.{arith}
use lib.ListN.{length, get_or, drop, set, replicate}
use Rattle.words.specs.Lists.{tab}
use Rattle.words.proofs.Registers.{cons, fill}
use Rattle.field.specs.Gf8.{squares}
use Rattle.field.specs.Gf32.{Field, scale, Products}
use Rattle.field.specs.Aes.{aes, sub}
use Rattle.field.specs.Tables.{sub_list}
use Rattle.field.proofs.Columns.{sub-rule}
use Rattle.table_rules.specs.Rules.{products_of, substitution_of}

by-rule : (f : ℕ → ℕ) (l : List ℕ) → ((k : ℕ) → k < length l → get_or l k 0 ≡ f k) → tab (length l) f ≡ l
by-rule f [] h = refl
by-rule f (x ∷ l) h = cons (sym (h 0 (omega arith))) (by-rule (λ i. f (suc i)) l (λ k q. h (suc k) (omega arith)))

-- the argument for every polynomial and every multiplier
pub products-are : (f : Field) (v : ℕ) (l : List ℕ) → length l ≡ 256 → Products f v l → products_of f.modulus v ≡ l
unfolding products_of
products-are f v l e h =
    ap (λ (n : ℕ). tab n (λ k. scale f k v)) (sym e) ∙ by-rule (λ k. scale f k v) l (λ k q. h k (rw e at q))

pub substitution-is : substitution_of aes ≡ sub_list
unfolding substitution_of squares sub sub_list
substitution-is = by-rule sub sub_list sub-rule

-- ---- a table that is filled, entry by entry

-- the first k of 256 entries of t are f's, and no other is written
pub record Entered (f : ℕ → ℕ) (t : List ℕ) (k : ℕ) : Type 0 where
  pub is : t ≡ tab k f ++ drop k (replicate 256 0)

pub entered-none : (f : ℕ → ℕ) → Entered f (replicate 256 0) 0
entered-none f = record { is = refl }

pub entered-more : (f : ℕ → ℕ) {t : List ℕ} {k x : ℕ} → k < 256 → x ≡ f k → Entered f t k → Entered f (set t k x) (k + 1)
entered-more f {k = k} h e g = record { is = rw (e, g.is) (fill k f (replicate 256 0) h) }

pub entered_all : (f : ℕ → ℕ) {t : List ℕ} {k : ℕ} → k ≡ 256 → Entered f t k → (t ≡ tab 256 f) × (256 ≡ length t)
entered_all f {t} {k} q g =
    let e : t ≡ tab 256 f = g.is ∙ ap (λ (j : ℕ). tab j f ++ drop j (replicate 256 0)) q ∙ append-nil (tab 256 f) in
    (e, sym (ap length e))

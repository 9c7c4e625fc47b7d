-- The outcomes of the pair by what the checks say, and past them by whether a multiplier is found and the test passes; and what answers them.
-- Assumes nothing.
use mathlib.Core.Path.{◌≡◌, refl, ap, sym, subst, ◌∙◌}
use mathlib.Core.Bool.{Bool, false, not}
use mathlib.Core.List.{List}
use Prim.Native.Nat.{ℕ, ◌<◌, ◌≤◌}
use native.Mathlib.Omega.{arith}
use borrow.Author.Tests.{eq-eqb, ne_eqb, eqb-false}
use Rattle.multi_s01.specs.Stream.{tries}
use Rattle.multi_s01.proofs.Lowest.{lowest-most}
use Rattle.command.specs.declared.Cipher.{Cipher}
use Rattle.command.specs.Decode.{number_of, refusal_number, refusal_of}
use Rattle.std.specs.Prelude.{Result, Ok, Err, IsErrAnd}
use Rattle.command.specs.declared.Refusal.{Refusal}
use Rattle.command.proofs.Numbers.{refused as refusal-not-0}
use Rattle.sealing_rules.specs.Sealing.{Outcome, refused, accepted, check_of, seal_check, open_check, sealed_with, genuine_with, message_with, multiplier, no_multiplier, seal_by, open_by, key_blocks, refused_where, seal_of, unseal_of}
use Rattle.sealing_rules.specs.Answer.{Admits, runs, refuses, Answered}
use Rattle.sealing_rules.proofs.Rows.{past-none, past-some, refuse-given, refuse-pass}

pub answered-by : {o o' : Outcome} {out out' : List ℕ} {r : Result ℕ Refusal} → o ≡ o' → Answered o' out r out' → Answered o out r out'
answered-by {out = out} {out'} {r} e a = subst (λ (x : Outcome). Answered x out r out') (sym e) a

pub answered-refused : {out : List ℕ} {e : Refusal} → Answered (refused (refusal_number e)) out (Err e) out
answered-refused = record { code_is = refl; count-is = refl; out-is = refl }

-- a refusal that is passed on is the answer
pub answered-passed : {out : List ℕ} (e : Refusal) (r : Result ℕ Refusal) → IsErrAnd r (λ y. y ≡ e) → Answered (refused (refusal_number e)) out r out
answered-passed e (Ok x) h = absurd h
answered-passed e (Err y) h = record { code_is = ap refusal_number h; count-is = refl; out-is = refl }

-- the refusal that is passed on
pub refusal-passed : {T : Type 0} (e : Refusal) (r : Result T Refusal) → IsErrAnd r (λ y. y ≡ e) → refusal_of r ≡ refusal_number e
refusal-passed e (Ok x) h = absurd h
refusal-passed e (Err y) h = ap refusal_number h

pub admits-passed : {k b : ℕ} (e : Refusal) (r : Result Cipher Refusal) → IsErrAnd r (λ y. y ≡ e) → k ≡ refusal_number e → Admits k b r
admits-passed e (Ok x) h q = absurd h
admits-passed e (Err y) h q = refuses (q ∙ ap refusal_number (sym h))

-- what the checks said, where the code knows the length's test and the need by other names
module _ (b : ℕ) (key iv : List ℕ) (room : ℕ) {ok ok' : Bool} {need need' : ℕ} {a : Result Cipher Refusal} (eo : ok ≡ ok') (en : need ≡ need')
    (h : Admits (check_of ok b key iv need room) b a) where
  named : Admits (check_of ok' b key iv need' room) b a
  named = subst (λ (k : ℕ). Admits k b a) (λ j. check_of (eo j) b key iv (en j) room) h

  pub admitted-run : {c : Cipher} → a ≡ Ok c → (check_of ok' b key iv need' room ≡ 0) × (b ≡ number_of c)
  admitted-run {c} e = by (subst (Admits (check_of ok' b key iv need' room) b) e named)
    where
      by : Admits (check_of ok' b key iv need' room) b (Ok c) → (check_of ok' b key iv need' room ≡ 0) × (b ≡ number_of c)
      by (runs k n) = (k, n)

  pub admitted-not : {e : Refusal} → a ≡ Err e → (check_of ok' b key iv need' room ≡ refusal_number e) × (refusal_number e ≡ 0 → ⊥)
  admitted-not {e} q = by (subst (Admits (check_of ok' b key iv need' room) b) q named)
    where
      by : Admits (check_of ok' b key iv need' room) b (Err e) → (check_of ok' b key iv need' room ≡ refusal_number e) × (refusal_number e ≡ 0 → ⊥)
      by (refuses k) = (k, refusal-not-0 e)

module _ (c : ℕ) (key iv r x : List ℕ) (room : ℕ) where
  pub seal-past : seal_check c key iv x room ≡ 0 → seal_of c key iv r x room ≡ seal_by (key_blocks c key iv) r x
  unfolding seal_of
  seal-past e = past-none (seal_by (key_blocks c key iv) r x) e

  pub open-past : open_check c key iv x room ≡ 0 → unseal_of c key iv r x room ≡ open_by (key_blocks c key iv) r x
  unfolding unseal_of
  open-past e = past-none (open_by (key_blocks c key iv) r x) e

  pub seal-not : {k : ℕ} → (seal_check c key iv x room ≡ k) × (k ≡ 0 → ⊥) → seal_of c key iv r x room ≡ refused k
  unfolding seal_of
  seal-not h = past-some (seal_by (key_blocks c key iv) r x) h.0 h.1

  pub open-not : {k : ℕ} → (open_check c key iv x room ≡ k) × (k ≡ 0 → ⊥) → unseal_of c key iv r x room ≡ refused k
  unfolding unseal_of
  open-not h = past-some (open_by (key_blocks c key iv) r x) h.0 h.1

-- where no block of those tried will do
pub seal-none : (z : ℕ → ℕ) (r m : List ℕ) → multiplier z ≡ tries → seal_by z r m ≡ refused 24
unfolding seal_by
seal-none z r m e = refuse-given 24 _ (eq-eqb (multiplier z) tries e)

pub open_none : (z : ℕ → ℕ) (r x : List ℕ) → multiplier z ≡ tries → open_by z r x ≡ refused 24
unfolding open_by
open_none z r x e = refuse-given 24 _ (eq-eqb (multiplier z) tries e)

-- where the first block that is not 0 is one of them
module _ (z : ℕ → ℕ) (t : ℕ) (is : t ≡ multiplier z) (tried : t < tries) where
  some : no_multiplier z ≡ false
  some = ne_eqb (multiplier z) tries (λ e. let n : t ≡ tries = is ∙ e in omega (arith, n, tried))

  pub seal-some : (r m : List ℕ) → seal_by z r m ≡ accepted (sealed_with z t r m)
  unfolding seal_by
  seal-some r m = refuse-pass 24 _ some ∙ ap (λ (k : ℕ). accepted (sealed_with z k r m)) (sym is)

  pub open-some : (r x : List ℕ) → open_by z r x ≡ refused_where (not (genuine_with z t r x)) 24 (accepted (message_with z t x))
  unfolding open_by
  open-some r x = refuse-pass 24 _ some ∙ ap (λ (k : ℕ). refused_where (not (genuine_with z k r x)) 24 (accepted (message_with z k x))) (sym is)

-- a multiplier was found
pub multiplier-some : (z : ℕ → ℕ) → no_multiplier z ≡ false → multiplier z < tries
multiplier-some z e = below (multiplier z) (lowest-most tries z) (eqb-false (multiplier z) tries e)
  where
    below : (t : ℕ) → t ≤ tries → (t ≡ tries → ⊥) → t < tries
    below t m n = omega arith

-- Past the other checks, sealing accepts exactly when a multiplier is found, and opening exactly when besides the recovered redundancy and padding
-- are those of the clause: the tests of the definitions are the clause's, one by one. A refusal writes nothing.
-- Assumes nothing.
use mathlib.Core.Path.{◌≡◌, refl, ap, sym, ◌∙◌}
use mathlib.Core.Bool.{Bool, true, false, not}
use mathlib.Core.List.{List, []}
use Prim.Native.Nat.{ℕ, zero, suc, ◌+◌, ◌-◌, ◌/◌, ◌<◌}
use native.Mathlib.Omega.{arith}
use lib.Dec.{eqb}
use lib.ListN.{length}
use borrow.Author.Tests.{eqb-true, eq-eqb, ne_eqb, not-false}
use Rattle.words.proofs.Tests.{both_left, both_right, both_true}
use Rattle.multi_s01.specs.Multi.{genuine}
use Rattle.blocks.specs.Blocks.{block_at, blocks_of}
use Rattle.multi_s01.specs.Stream.{tries, after}
use Rattle.blocks.proofs.Spelling.{blocks_of-length}
use Rattle.multi_s01.proofs.Lowest.{lowest-some, lowest-blank, lowest-found, lowest-none}
use Rattle.sealing_rules.specs.Sealing.{Outcome, refused, accepted, sealed_with, genuine_with, message_with, multiplier, no_multiplier, seal_by, open_by, key_blocks, refused_where, seal_check, open_check, past, seal_of, unseal_of}
use Rattle.sealing_rules.specs.Clause.{Multiplier, block_p, Genuine}
use Rattle.sealing_rules.proofs.Rows.{past-none, refuse-passed, refuse-pass, refuse-given}
use Rattle.sealing_rules.proofs.Outcomes.{multiplier-some}

abbrev code : Outcome → ℕ
code o = o.code

-- ---- the multiplier

found-is : (z : ℕ → ℕ) → no_multiplier z ≡ false → Multiplier z (multiplier z)
found-is z e =
    let q = multiplier-some z e in
    record { tried = q; not-zero = lowest-some tries z q; lowest = lowest-blank tries z }

is_found : {z : ℕ → ℕ} {t : ℕ} → Multiplier z t → multiplier z ≡ t
is_found {z} {t} m = lowest-found tries z t m.tried m.lowest m.not-zero

is_some : {z : ℕ → ℕ} {t : ℕ} → Multiplier z t → no_multiplier z ≡ false
is_some {z} {t} m =
    let q = m.tried in
    ne_eqb (multiplier z) tries (λ e. differs t q (sym (is_found m) ∙ e))
  where
    differs : (t : ℕ) → t < tries → t ≡ tries → ⊥
    differs t q e = omega arith

-- ---- the test

module _ (z : ℕ → ℕ) (t : ℕ) (r s : List ℕ) where
  -- as the definition has it: the block behind as many as there are
  last-is : after z t (length (blocks_of s)) ≡ z (t + length s / 8 + 1)
  last-is = ap (after z t) (blocks_of-length s) ∙ (let e : t + 1 + length s / 8 ≡ t + length s / 8 + 1 = omega arith in ap z e)

  place : (k : ℕ) → block_p z t s (length (blocks_of s) - k) ≡ block_p z t s (length s / 8 - k)
  place k = ap (λ (n : ℕ). block_p z t s (n - k)) (blocks_of-length s)

  test-passed : Multiplier z t → genuine_with z t r s ≡ true → Genuine z t r s
  unfolding genuine_with genuine
  test-passed m e =
      let a = eqb (block_p z t s (length (blocks_of s) - 2)) (after z t (length (blocks_of s))) in
      let b = eqb (block_p z t s (length (blocks_of s) - 1)) (block_at r 0) in
      record {
        multiplier = m;
        padding = sym (place 2) ∙ eqb-true _ _ (both_left a b e) ∙ last-is;
        redundancy = sym (place 1) ∙ eqb-true _ _ (both_right a b e);
      }

  test-pass : Genuine z t r s → genuine_with z t r s ≡ true
  unfolding genuine_with genuine
  test-pass g = both_true (eq-eqb _ _ (place 2 ∙ g.padding ∙ sym last-is)) (eq-eqb _ _ (place 1 ∙ g.redundancy))

-- ---- over any keystream

pub seal-by : {z : ℕ → ℕ} {t : ℕ} (r m : List ℕ) → Multiplier z t → seal_by z r m ≡ accepted (sealed_with z t r m)
unfolding seal_by
seal-by {z} {t} r m q = refuse-pass 24 (accepted (sealed_with z (multiplier z) r m)) (is_some q) ∙ ap (λ (k : ℕ). accepted (sealed_with z k r m)) (is_found q)

pub open_by_lem : {z : ℕ → ℕ} {t : ℕ} (r s : List ℕ) → Genuine z t r s → open_by z r s ≡ accepted (message_with z t s)
unfolding open_by
open_by_lem {z} {t} r s q =
    let i = is_found q.multiplier in
    refuse-pass 24 _ (is_some q.multiplier)
    ∙ refuse-pass 24 _ (ap not (ap (λ (k : ℕ). genuine_with z k r s) i ∙ test-pass z t r s q))
    ∙ ap (λ (k : ℕ). accepted (message_with z k s)) i

-- where all blocks that are tried are 0, both refuse
none_found : (z : ℕ → ℕ) → ((i : ℕ) → i < tries → z i ≡ 0) → no_multiplier z ≡ true
none_found z h = eq-eqb (multiplier z) tries (lowest-none tries z h)

pub none-found-seal : {z : ℕ → ℕ} (r m : List ℕ) → ((i : ℕ) → i < tries → z i ≡ 0) → seal_by z r m ≡ refused 24
unfolding seal_by
none-found-seal {z} r m h = refuse-given 24 _ (none_found z h)

pub none-found-open : {z : ℕ → ℕ} (r s : List ℕ) → ((i : ℕ) → i < tries → z i ≡ 0) → open_by z r s ≡ refused 24
unfolding open_by
none-found-open {z} r s h = refuse-given 24 _ (none_found z h)

-- ---- the pair, past the other checks

module _ (c : ℕ) (key iv r : List ℕ) where
  abbrev z : ℕ → ℕ
  z = key_blocks c key iv

  pub seal-accepted : (m : List ℕ) (room : ℕ) → seal_check c key iv m room ≡ 0 → (seal_of c key iv r m room).code ≡ 0 → Multiplier (key_blocks c key iv) (multiplier (key_blocks c key iv))
  unfolding seal_of seal_by
  seal-accepted m room e h =
      found-is z (refuse-passed (no_multiplier z) 24 (accepted (sealed_with z (multiplier z) r m)) (omega arith) (sym (ap code (past-none (seal_by z r m) e)) ∙ h)).0

  pub seal-accepts : (m : List ℕ) (room t : ℕ) → seal_check c key iv m room ≡ 0 → Multiplier (key_blocks c key iv) t → seal_of c key iv r m room ≡ accepted (sealed_with (key_blocks c key iv) t r m)
  unfolding seal_of
  seal-accepts m room t e q = past-none (seal_by z r m) e ∙ seal-by r m q

  pub open-accepted : (s : List ℕ) (room : ℕ) → open_check c key iv s room ≡ 0 → (unseal_of c key iv r s room).code ≡ 0 → Genuine (key_blocks c key iv) (multiplier (key_blocks c key iv)) r s
  unfolding unseal_of open_by
  open-accepted s room e h =
      let t = multiplier z in
      let o = accepted (message_with z t s) in
      let f = refuse-passed (no_multiplier z) 24 (refused_where (not (genuine_with z t r s)) 24 o) (omega arith) (sym (ap code (past-none (open_by z r s) e)) ∙ h) in
      let g = refuse-passed (not (genuine_with z t r s)) 24 o (omega arith)
      (sym (ap code (past-none (open_by z r s) e ∙ f.1)) ∙ h) in
      test-passed z t r s (found-is z f.0) (not-false _ g.0)

  pub open-accepts : (s : List ℕ) (room t : ℕ) → open_check c key iv s room ≡ 0 → Genuine (key_blocks c key iv) t r s → unseal_of c key iv r s room ≡ accepted (message_with (key_blocks c key iv) t s)
  unfolding unseal_of
  open-accepts s room t e q = past-none (open_by z r s) e ∙ open_by_lem r s q

-- ---- refusals

-- what is refused writes nothing
pub record Blank (o : Outcome) : Type 0 where
  pub nothing : (o.code ≡ 0 → ⊥) → o.bytes ≡ []

refuse-blank : (b : Bool) (k : ℕ) (o : Outcome) → Blank o → Blank (refused_where b k o)
unfolding refused_where
refuse-blank true k o h = record { nothing = λ _. refl }
refuse-blank false k o h = h

past-blank : (n : ℕ) (o : Outcome) → Blank o → Blank (past n o)
unfolding past
past-blank zero o h = h
past-blank (suc n) o h = record { nothing = λ _. refl }

accepted-blank : (l : List ℕ) → Blank (accepted l)
accepted-blank l = record { nothing = λ n. absurd (n refl) }

pub seal-blank : (c : ℕ) (key iv r m : List ℕ) (room : ℕ) → Blank (seal_of c key iv r m room)
unfolding seal_of seal_by
seal-blank c key iv r m room = past-blank _ _ (refuse-blank _ 24 _ (accepted-blank _))

pub open-blank : (c : ℕ) (key iv r s : List ℕ) (room : ℕ) → Blank (unseal_of c key iv r s room)
unfolding unseal_of open_by
open-blank c key iv r s room = past-blank _ _ (refuse-blank _ 24 _ (refuse-blank _ 24 _ (accepted-blank _)))

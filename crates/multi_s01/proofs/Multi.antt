-- What is sealed is opened: each W is got back by the multiplier's inverse, so each block is, and with them the padding and the redundancy. And what
-- is genuine is the sealing of its message.
-- Assumes nothing.
use mathlib.Core.Path.{◌≡◌, refl, ap, ap₂, sym, ◌∙◌}
use mathlib.Core.Bool.{true}
use mathlib.Core.List.{List, [], ◌∷◌, ◌++◌}
use Prim.Native.Nat.{ℕ, suc, ◌+◌, ◌-◌, ◌≤◌}
use native.Mathlib.Omega.{arith}
use lib.Bits.{bit_xor, xor_lt, xor_self, xor_zero_r}
use lib.Dec.{lit<, eqb}
use lib.ListN.{length, get_or, take, drop, length-append, length-drop, take-append-drop}
use lib.Seq.{get_or-append-add, get_or-drop, take_at, length-take-le}
use borrow.Author.Tests.{eq-eqb, eqb-true}
use Rattle.words.specs.Word.{◌⊕◌}
use Rattle.words.specs.Lists.{All, none, more}
use Rattle.words.specs.Tests.{both}
use Rattle.words.proofs.Ranges.{all_append}
use Rattle.words.proofs.Registers.{listed}
use Rattle.words.proofs.Tests.{both_left, both_right}
use Rattle.words.proofs.Xor.{xor_assoc}
use Rattle.blocks.specs.Blocks.{Block}
use Rattle.gf64.specs.Gf64.{mul, reciprocal}
use Rattle.multi_s01.specs.Multi.{seal_from, open_from, padded, sealed, recovered, genuine, message}
use Rattle.gf64.proofs.Ring.{mul-block, mul-one, mul_comm, mul_assoc}
use Rattle.gf64.proofs.Inverses.{inverse-is, inverse-block}

-- a list of n elements, its last two apart
ends_with : (l : List ℕ) (n : ℕ) → length l ≡ n → 2 ≤ n → l ≡ take (n - 2) l ++ (get_or l (n - 2) 0 ∷ get_or l (n - 1) 0 ∷ [])
ends_with l n e h =
    let k = length-drop (n - 2) l in
    let z : n - 2 + 0 ≡ n - 2 = omega arith in
    let o : n - 2 + 1 ≡ n - 1 = omega arith in
    let at : (i j : ℕ) → n - 2 + i ≡ j → get_or (drop (n - 2) l) i 0 ≡ get_or l j 0 = λ i j q. get_or-drop (n - 2) l i 0 ∙ ap (λ (x : ℕ). get_or l x 0) q in
    sym (take-append-drop (n - 2) l)
    ∙ ap (λ (t : List ℕ). take (n - 2) l ++ t)
    (listed 2 (drop (n - 2) l) (omega arith) ∙ ap₂ (λ (x y : ℕ). x ∷ y ∷ []) (at 0 (n - 2) z) (at 1 (n - 1) o))

pub twice : (d k : ℕ) → (d ⊕ k) ⊕ k ≡ d
twice d k = xor_assoc d k k ∙ ap (bit_xor d) (xor_self k) ∙ xor_zero_r d

-- what is sealed are blocks
pub seal-blocks : (A : ℕ) → Block A → (ps : List ℕ) (w : ℕ) (z : ℕ → ℕ) → Block w → All Block ps → ((i : ℕ) → Block (z i)) → All Block (seal_from A w z ps)
seal-blocks A ha [] w z hw h hz = none
seal-blocks A ha (p ∷ ps) w z hw (more hp h) hz =
    let x = xor_lt 64 p (z 0) hp (hz 0) in
    more (xor_lt 64 (mul A (p ⊕ z 0)) w (mul-block A (p ⊕ z 0) ha) hw) (seal-blocks A ha ps (p ⊕ z 0) (λ i. z (suc i)) x h (λ i. hz (suc i)))

pub recovered-length : (A w : ℕ) (z : ℕ → ℕ) (cs : List ℕ) → length (open_from A w z cs) ≡ length cs
recovered-length A w z [] = refl
recovered-length A w z (c ∷ cs) = ap suc (recovered-length A (mul (reciprocal A) (c ⊕ w)) (λ i. z (suc i)) cs)

pub padded-blocks : (z : ℕ → ℕ) (R : ℕ) (msg : List ℕ) → ((i : ℕ) → Block (z i)) → Block R → All Block msg → All Block (padded z R msg)
padded-blocks z R msg hz hr h = all_append h (more (hz (length msg + 2)) (more hr none))

module _ (A : ℕ) (ha : Block A) (nz : A ≡ 0 → ⊥) where
  undone : (w : ℕ) → Block w → mul (reciprocal A) (mul A w) ≡ w
  undone w h =
      let i = inverse-block A ha in
      sym (mul_assoc (reciprocal A) A w i ha h) ∙ ap (λ (x : ℕ). mul x w) (mul_comm (reciprocal A) A i ha ∙ inverse-is A ha nz) ∙ mul-one w h

  pub redone : (w : ℕ) → Block w → mul A (mul (reciprocal A) w) ≡ w
  redone w h =
      let i = inverse-block A ha in
      sym (mul_assoc A (reciprocal A) w ha i h) ∙ ap (λ (x : ℕ). mul x w) (inverse-is A ha nz) ∙ mul-one w h

  pub opened-sealed : (ps : List ℕ) (w : ℕ) (z : ℕ → ℕ) → All Block ps → ((i : ℕ) → Block (z i)) → open_from A w z (seal_from A w z ps) ≡ ps
  opened-sealed [] w z h hz = refl
  opened-sealed (p ∷ ps) w z (more hp h) hz =
      let b = xor_lt 64 p (z 0) hp (hz 0) in
      let e : mul (reciprocal A) ((mul A (p ⊕ z 0) ⊕ w) ⊕ w) ≡ p ⊕ z 0 = ap (mul (reciprocal A)) (twice (mul A (p ⊕ z 0)) w) ∙ undone (p ⊕ z 0) b in
      ap (λ (x : ℕ). x ⊕ z 0 ∷ open_from A x (λ i. z (suc i)) (seal_from A (p ⊕ z 0) (λ i. z (suc i)) ps)) e
      ∙ ap₂ ◌∷◌ (twice p (z 0)) (opened-sealed ps (p ⊕ z 0) (λ i. z (suc i)) h (λ i. hz (suc i)))

  -- what is recovered is sealed to what it was recovered from
  sealed-opened : (cs : List ℕ) (w : ℕ) (z : ℕ → ℕ) → All Block cs → Block w → seal_from A w z (open_from A w z cs) ≡ cs
  sealed-opened [] w z none hw = refl
  sealed-opened (c ∷ cs) w z (more hc h) hw =
      let x = mul (reciprocal A) (c ⊕ w) in
      let again : mul A x ⊕ w ≡ c = ap (λ (y : ℕ). y ⊕ w) (redone (c ⊕ w) (xor_lt 64 c w hc hw)) ∙ twice c w in
      ap (λ (y : ℕ). mul A y ⊕ w ∷ seal_from A y (λ i. z (suc i)) (open_from A x (λ i. z (suc i)) cs)) (twice x (z 0))
      ∙ ap₂ ◌∷◌ again (sealed-opened cs x (λ i. z (suc i)) h (mul-block (reciprocal A) (c ⊕ w) (inverse-block A ha)))

  -- what is genuine is the sealing of its message
  module _ (z : ℕ → ℕ) (R : ℕ) (cs : List ℕ) (h : All Block cs) (two : 2 ≤ length cs) where
    pub message-long : length (message A z cs) ≡ length cs - 2
    unfolding message
    message-long = length-take-le (length cs - 2) (open_from A 0 z cs) (omega (arith, recovered-length A 0 z cs))

    pub sealed-again : genuine A z R cs ≡ true → sealed A z R (message A z cs) ≡ cs
    unfolding genuine sealed message
    sealed-again g =
        let P = open_from A 0 z cs in
        let n = recovered-length A 0 z cs in
        let a = eqb (get_or P (length cs - 2) 0) (z (length cs)) in
        let b = eqb (get_or P (length cs - 1) 0) R in
        let l : length (take (length cs - 2) P) + 2 ≡ length cs = omega (arith, message-long) in
        let padding : get_or P (length cs - 2) 0 ≡ z (length (take (length cs - 2) P) + 2) = eqb-true _ _ (both_left a b g) ∙ ap z (sym l) in
        let redundancy : get_or P (length cs - 1) 0 ≡ R = eqb-true _ _ (both_right a b g) in
        ap (λ (t : List ℕ). seal_from A 0 z (take (length cs - 2) P ++ t)) (sym (ap₂ (λ (x y : ℕ). x ∷ y ∷ []) padding redundancy))
        ∙ ap (seal_from A 0 z) (sym (ends_with P (length cs) n two))
        ∙ sealed-opened cs 0 z h (lit< tt)

  pub seal-long : (ps : List ℕ) (w : ℕ) (z : ℕ → ℕ) → length (seal_from A w z ps) ≡ length ps
  seal-long [] w z = refl
  seal-long (p ∷ ps) w z = ap suc (seal-long ps (p ⊕ z 0) (λ i. z (suc i)))

  module _ (z : ℕ → ℕ) (hz : (i : ℕ) → Block (z i)) (R : ℕ) (hr : Block R) (msg : List ℕ) (h : All Block msg) where
    pub long : length (sealed A z R msg) ≡ length msg + 2
    unfolding sealed
    long = seal-long (padded z R msg) 0 z ∙ length-append msg (z (length msg + 2) ∷ R ∷ [])

    pub sealed-blocks : All Block (sealed A z R msg)
    unfolding sealed
    sealed-blocks = seal-blocks A ha (padded z R msg) 0 z (lit< tt) (padded-blocks z R msg hz hr h) hz

    back : recovered A z (sealed A z R msg) ≡ padded z R msg
    unfolding sealed
    back = opened-sealed (padded z R msg) 0 z (padded-blocks z R msg hz hr h) hz

    pub accepted : genuine A z R (sealed A z R msg) ≡ true
    unfolding genuine
    accepted =
        let l = long in
        ap₂ both
        (eq-eqb _ _ (ap₂ (λ (x : List ℕ) (n : ℕ). get_or x (n - 2) 0) back long
        ∙ ap (λ (n : ℕ). get_or (padded z R msg) n 0) (let e : length msg + 2 - 2 ≡ length msg + 0 = omega arith in e)
        ∙ get_or-append-add msg (z (length msg + 2) ∷ R ∷ []) 0 0 ∙ ap z (sym long)))
        (eq-eqb _ _ (ap₂ (λ (x : List ℕ) (n : ℕ). get_or x (n - 1) 0) back long
        ∙ ap (λ (n : ℕ). get_or (padded z R msg) n 0) (let e : length msg + 2 - 1 ≡ length msg + 1 = omega arith in e)
        ∙ get_or-append-add msg (z (length msg + 2) ∷ R ∷ []) 1 0))

    pub returned : message A z (sealed A z R msg) ≡ msg
    unfolding message
    returned =
        ap₂ (λ (x : List ℕ) (n : ℕ). take (n - 2) x) back long
        ∙ take_at msg (z (length msg + 2) ∷ R ∷ []) (length msg + 2 - 2) (let e : length msg ≡ length msg + 2 - 2 = omega arith in e)

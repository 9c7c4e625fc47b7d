-- Units and turns of a crypt, by their numbers: unit i is at byte i * u, and turn i, of t bytes that are whole units, at byte i * t.
-- Assumes nothing.
use Prim.Native.Nat.{ℕ, zero, ◌+◌, ◌-◌, ◌*◌, ◌/◌, ◌%◌, ◌<◌, ◌≤◌}
use mathlib.Core.Path.{◌≡◌, refl, ap, sym, subst, ◌∙◌}
use Rattle.std.proofs.Common.{◌⊎◌, inl, inr, ◌≢◌}
use mathlib.Core.List.{List, ◌++◌}
use lib.ListN.{length, get_or, take, drop, length-append}
use Rattle.std.proofs.lemmas.List.{length-take-le, take-take, drop-take}
use native.Mathlib.Omega.{arith}
use native.Mathlib.Nat.{le-div_iff_mul-le, div-add-mod', add-mul, mul-mod_left, mul-div_left, zero-mul, zero-add}
use Rattle.keystream.specs.Stream.{Gen, byte_at, xor_from, BytesPut, UnitPut, PartCrypted}
use Rattle.keystream.proofs.Parts.{part_end, Running, running-start, running-unit, running-turn, running-end, turning-start, turning-unit, turning-end, did-length, aligned, put-at, put-tail, lent_from, back_from, did-lent, tail-length}

-- the next of as many as fit
next_fits : {i n : ℕ} (u : ℕ) → zero < u → i < n / u → i * u + u ≤ n
next_fits {i} {n} u pos h =
    let k : (i + 1) * u ≤ n = (le-div_iff_mul-le pos).0 (let z : i + 1 ≤ n / u = omega arith in z) in
    omega (arith, k, add-mul i 1 u)

next_at : (i u : ℕ) → i * u + u ≡ (i + 1) * u
next_at i u = omega (arith, add-mul i 1 u)

-- how far all of them go, and that they are whole
reached : {i u v : ℕ} (n : ℕ) → v ≡ u → i ≤ n / v → n / v ≤ i → i * u ≡ n / u * u
reached {i} {u} {v} n e h q = let k : i ≡ n / u = (let z : i ≡ n / v = omega arith in z) ∙ ap (λ (x : ℕ). n / x) e in ap (λ (x : ℕ). x * u) k

pub whole-part : {u v : ℕ} (n : ℕ) → v ≡ u → (n - n % v) % u ≡ 0
whole-part {u} {v} n e =
    let k : n - n % v ≡ n / u * u = ap (λ (x : ℕ). n - n % x) e ∙ (let z : n - n % u ≡ n / u * u = omega (arith, div-add-mod' n u) in z) in
    ap (λ (x : ℕ). x % u) k ∙ mul-mod_left (n / u) u

fewer : {i u v : ℕ} (n : ℕ) → v ≡ u → i < n / v → i < n / u
fewer {i} n e h = subst (λ (x : ℕ). i < n / x) e h

-- a turn of two units or eight is whole units, and a byte at least
pub turn-whole : {t : ℕ} (u : ℕ) → (t ≡ 2 * u) ⊎ (t ≡ 8 * u) → t % u ≡ 0
turn-whole u (inl e) = ap (λ (x : ℕ). x % u) e ∙ mul-mod_left 2 u
turn-whole u (inr e) = ap (λ (x : ℕ). x % u) e ∙ mul-mod_left 8 u

pub turn-pos : {t : ℕ} (u : ℕ) → zero < u → (t ≡ 2 * u) ⊎ (t ≡ 8 * u) → zero < t
turn-pos u h (inl e) = omega arith
turn-pos u h (inr e) = omega arith

-- which of the two it is
pub turn-eight : {t v w : ℕ} (u : ℕ) → zero < u → v ≡ t → w ≡ u → (t ≡ 2 * u) ⊎ (t ≡ 8 * u) → v / w ≡ 8 → t ≡ 8 * u
turn-eight {t} {v} {w} u pos a b (inl e) h = let k : t / u ≡ 2 = ap (λ (x : ℕ). x / u) e ∙ mul-div_left 2 pos in
    let z : t / u ≡ 8 = sym (ap (λ (x : ℕ). x / w) a ∙ ap (λ (x : ℕ). t / x) b) ∙ h in omega arith
turn-eight u pos a b (inr e) h = e

pub turn-two : {t v w : ℕ} (u : ℕ) → zero < u → v ≡ t → w ≡ u → (t ≡ 2 * u) ⊎ (t ≡ 8 * u) → v / w ≢ 8 → t ≡ 2 * u
turn-two u pos a b (inl e) h = e
turn-two {t} {v} {w} u pos a b (inr e) h = elim (h (ap (λ (x : ℕ). x / w) a ∙ ap (λ (x : ℕ). t / x) b ∙ ap (λ (x : ℕ). x / u) e ∙ mul-div_left 8 pos)) [ ]

module _ {S : Type 0} (g : Gen S) {u : ℕ} (pos : zero < u) (unit-is : g.unit ≡ u) {s : S} {text out₀ : List ℕ} where
  -- none so far
  pub from-start : (t : ℕ) → Running g u s text out₀ out₀ s (0 * t)
  from-start t = subst (λ (k : ℕ). Running g u s text out₀ out₀ s k) (sym (zero-mul t)) (running-start g u pos unit-is)

  -- a unit, and a step
  pub unit-done : {cur : S} {out : List ℕ} → u ≤ length text → BytesPut (g.strm s) 0 u text out₀ out → cur ≡ g.next s → PartCrypted g 0 s u text out₀ cur out
  unit-done {out = out} h p e = part_end g (omega arith) 0 u s text out₀ out (g.strm s) refl h p (zero-add u ∙ sym unit-is) e

  -- Two units, each written where the one before it ended, are a turn. The text may go on behind them.
  pub paired : {cur cur' : S} {out o' : List ℕ} {v : ℕ} → v ≡ u → 2 * u ≤ length text → 2 * u ≤ length out₀ → BytesPut (g.strm s) 0 u text out₀ out → cur ≡ g.next s
      → BytesPut (g.strm cur) 0 u (lent_from v text) (lent_from v out) o' → cur' ≡ g.next cur → PartCrypted g 0 s (2 * u) text out₀ cur' (back_from v out o')
  paired {cur} {cur'} {out} {o'} {v} e h q p n p' n' =
      let both : List ℕ = take (u + u) text in
      let end : List ℕ = back_from u out o' in
      let many : length both ≡ u + u = length-take-le (u + u) text (omega arith) in
      let l : length out ≡ length out₀ = did-length g (omega arith) (omega arith) (omega arith) (unit-done (omega arith) p n) in
      let first : UnitPut (g.strm s) u both (0 + 0) out₀ out =
      p
      ∙ ap (λ (t : List ℕ). xor_from (λ j. get_or (g.strm s) j 0) 0 t ++ drop u out₀) (sym (take-take u (u + u) text (omega arith)))
      ∙ ap (λ (k : ℕ). xor_from (λ j. get_or (g.strm s) j 0) 0 (take u both) ++ drop k out₀) (sym (zero-add u)) in
      let lent : BytesPut (g.strm cur) 0 u (lent_from u text) (lent_from u out) o' = subst (λ (k : ℕ). BytesPut (g.strm cur) 0 u (lent_from k text) (lent_from k out) o') e p' in
      let behind : UnitPut (g.strm cur) u both u out end =
      put-at refl u text u out o' (omega arith) lent
      ∙ ap (λ (t : List ℕ). take u out ++ (xor_from (λ j. get_or (g.strm cur) j 0) 0 t ++ drop (u + u) out))
      (sym (ap (take u) (drop-take u u text) ∙ take-take u u (drop u text) (omega arith))) in
      let second : UnitPut (g.strm cur) u both (0 + (0 + u)) out end = subst (λ (k : ℕ). UnitPut (g.strm cur) u both k out end) (sym (zero-add (0 + u) ∙ zero-add u)) behind in
      let kept : length o' ≡ length (lent_from u out) =
      did-length g (omega arith) (omega (arith, tail-length u text)) (omega (arith, tail-length u out))
      (part_end g (omega arith) 0 u cur (lent_from u text) (lent_from u out) o' (g.strm cur) refl (omega (arith, tail-length u text)) lent (zero-add u ∙ sym unit-is) n') in
      let wrote : length end ≡ length out =
      ap length (put-tail u out o' (omega arith)) ∙ length-append (take u out) o' ∙ omega (arith, kept, tail-length u out, length-take-le u out (let z : u ≤ length out = omega arith in z)) in
      let t₁ = turning-unit g u pos unit-is (u + u) {s = s} {text = both} {out₀ = out₀} {at = 0} (omega arith) (omega arith) (turning-start g u pos unit-is (u + u)) l first n in
      let t₂ = turning-unit g u pos unit-is (u + u) (omega arith) (omega arith) t₁ wrote second n' in
      let r = turning-end g u pos unit-is (u + u) (omega arith) (omega arith) t₂ (running-start g u pos unit-is) in
      let d : PartCrypted g 0 s (u + u) both out₀ cur' end = subst (λ (k : ℕ). PartCrypted g 0 s k both out₀ cur' end) (zero-add (u + u)) r.did in
      let all : PartCrypted g 0 s (u + u) text out₀ cur' end =
      record { state-is = d.state-is; out-is = d.out-is ∙ ap (λ (t : List ℕ). xor_from (byte_at g s 0) 0 t ++ drop (u + u) out₀) (take-take (u + u) (u + u) text (omega arith)) } in
      let sum : u + u ≡ 2 * u = omega arith in
      subst (λ (k : ℕ). PartCrypted g 0 s k text out₀ cur' (back_from v out o')) sum (subst (λ (k : ℕ). PartCrypted g 0 s (u + u) text out₀ cur' (back_from k out o')) (sym e) all)

  -- whole units, and as many again
  pub doubled : {cur cur' : S} {out o' : List ℕ} {a n v : ℕ} (k : ℕ) → a ≡ k * u → n ≡ a + a → v ≡ a → n ≤ length text → n ≤ length out₀ → PartCrypted g 0 s a text out₀ cur out
      → PartCrypted g 0 cur a (lent_from v text) (lent_from v out) cur' o' → PartCrypted g 0 s n text out₀ cur' (back_from v out o')
  doubled {cur} {cur'} {out} {o'} {a} {n} {v} k b m e h q p p' =
      let whole : a % u ≡ 0 = ap (λ (x : ℕ). x % u) b ∙ mul-mod_left k u in
      let d : PartCrypted g 0 cur a (lent_from a text) (lent_from a out) cur' o' =
      subst (λ (x : ℕ). PartCrypted g 0 cur a (lent_from x text) (lent_from x out) cur' o') e p' in
      let all : PartCrypted g 0 s (a + a) text out₀ cur' (back_from a out o') =
      did-lent g (omega arith) (omega arith) (omega arith) (aligned unit-is (0 + a) (ap (λ (x : ℕ). x % u) (zero-add a) ∙ whole)) p d in
      subst (λ (x : ℕ). PartCrypted g 0 s x text out₀ cur' (back_from v out o')) (sym m)
      (subst (λ (x : ℕ). PartCrypted g 0 s (a + a) text out₀ cur' (back_from x out o')) (sym e) all)

  -- all the units
  pub units-done : {cur : S} {out : List ℕ} {i n v : ℕ} → v ≡ u → n % u ≡ 0 → i ≤ n / v → n / v ≤ i → Running g u s text out₀ out cur (i * u) → PartCrypted g 0 s n text out₀ cur out
  units-done {cur} {out} {i} {n} a whole h q r =
      let k : i * u ≡ n = reached n a h q ∙ (let z : n / u * u ≡ n = omega (arith, div-add-mod' n u, whole) in z) in
      subst (λ (x : ℕ). PartCrypted g 0 s x text out₀ cur out) k r.did

  module _ {cur cur' : S} {out o' : List ℕ} where
    -- a unit more, and a step
    pub unit-more : {i n v w : ℕ} → v ≡ u → w ≡ u → n ≤ length text → n ≤ length out₀ → i < n / v → Running g u s text out₀ out cur (i * u)
        → BytesPut (g.strm cur) 0 u (lent_from (i * w) text) (lent_from (i * w) out) o' → cur' ≡ g.next cur → Running g u s text out₀ (back_from (i * w) out o') cur' ((i + 1) * u)
    unit-more {i} {n} {w = w} a b h q l r d e =
        let f = next_fits u pos (fewer n a l) in
        let m = r.same_length in
        let at : i * w ≡ i * u = ap (λ (x : ℕ). i * x) b in
        let d' : BytesPut (g.strm cur) 0 u (lent_from (i * u) text) (lent_from (i * u) out) o' =
        subst (λ (k : ℕ). BytesPut (g.strm cur) 0 u (lent_from k text) (lent_from k out) o') at d in
        let r' : Running g u s text out₀ (back_from (i * u) out o') cur' (i * u + u) =
        running-unit g u pos unit-is r (omega arith) (omega arith) (put-at refl u text (i * u) out o' (omega arith) d') e in
        subst (λ (k : ℕ). Running g u s text out₀ (back_from k out o') cur' ((i + 1) * u)) (sym at)
        (subst (λ (k : ℕ). Running g u s text out₀ (back_from (i * u) out o') cur' k) (next_at i u) r')

    -- a turn more
    pub turn-more : {i t v w : ℕ} → t % u ≡ 0 → 0 < t → v ≡ t → w ≡ t → length text ≤ length out₀ → i < length text / v → Running g u s text out₀ out cur (i * t)
        → PartCrypted g 0 cur t (lent_from (i * w) text) (lent_from (i * w) out) cur' o' → Running g u s text out₀ (back_from (i * w) out o') cur' ((i + 1) * t)
    turn-more {i} {t} {w = w} whole up a b h l r p =
        let f = next_fits t up (fewer (length text) a l) in
        let at : i * w ≡ i * t = ap (λ (x : ℕ). i * x) b in
        let p₂ : PartCrypted g 0 cur t (lent_from (i * t) text) (lent_from (i * t) out) cur' o' =
        subst (λ (k : ℕ). PartCrypted g 0 cur t (lent_from k text) (lent_from k out) cur' o') at p in
        let r' : Running g u s text out₀ (back_from (i * t) out o') cur' (i * t + t) =
        running-turn g u pos unit-is h t whole r (omega arith) p₂ in
        subst (λ (k : ℕ). Running g u s text out₀ (back_from k out o') cur' ((i + 1) * t)) (sym at)
        (subst (λ (k : ℕ). Running g u s text out₀ (back_from (i * t) out o') cur' k) (next_at i t) r')

    -- all the turns, and what is left
    pub turns-done : {i t v w : ℕ} → v ≡ t → w ≡ t → length text ≤ length out₀ → i ≤ length text / v → length text / v ≤ i → Running g u s text out₀ out cur (i * t)
        → PartCrypted g 0 cur (length (lent_from (length text / v * w) text)) (lent_from (length text / v * w) text) (lent_from (length text / v * w) out) cur' o'
        → PartCrypted g 0 s (length text) text out₀ cur' (back_from (length text / v * w) out o')
    turns-done {i} {t} {v} {w} a b h l m r p =
        let at : i * t ≡ length text / v * w = reached (length text) a l m ∙ sym (ap (λ (x : ℕ). length text / x * w) a ∙ ap (λ (x : ℕ). length text / t * x) b) in
        let r' : Running g u s text out₀ out cur (length text / v * w) = subst (λ (k : ℕ). Running g u s text out₀ out cur k) at r in
        running-end g u pos unit-is h r' (tail-length (length text / v * w) text) p

    -- whole units, and what is left of the text
    pub ones-done : {v k : ℕ} → v ≡ u → k ≡ length text - (length text - length text % v) → length text ≤ length out₀ → PartCrypted g 0 s (length text - length text % v) text out₀ cur out
        → PartCrypted g 0 cur k (lent_from (length text - length text % v) text) (lent_from (length text - length text % v) out) cur' o'
        → PartCrypted g 0 s (length text) text out₀ cur' (back_from (length text - length text % v) out o')
    ones-done {v} {k} a e h p q =
        let at = length text - length text % v in
        let sum : at + k ≡ length text = omega arith in
        subst (λ (x : ℕ). PartCrypted g 0 s x text out₀ cur' (back_from at out o')) sum
        (did-lent g (omega arith) (omega arith) (omega arith) (aligned unit-is (0 + at) (ap (λ (x : ℕ). x % u) (zero-add at) ∙ whole-part (length text) a)) p q)

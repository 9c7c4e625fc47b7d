-- Four fk at once: T goes its way without the buffer, the bits that come out are put into the buffer one after the other, and the table has T and the bits.
-- Assumes nothing.
use mathlib.Core.Path.{◌≡◌, refl, ap, ap₂, sym, subst, ◌∙◌}
use mathlib.Core.Bool.{Bool, true, false}
use mathlib.Core.List.{List, [], ◌∷◌, ◌++◌}
use Prim.Native.Nat.{ℕ, zero, suc, ◌+◌, ◌*◌, ◌/◌, ◌%◌, ◌-◌, ◌^◌, ◌<◌, ◌≤◌}
use native.Mathlib.Nat.{mod-lt}
use native.Mathlib.Omega.{arith}
use lib.Dec.{eqb, ltb, leb, lit<}
use lib.ListN.{length, get_or}
use lib.Pow.{shr-shr, field, mod-mod-pow}
use borrow.Author.Tests.{leb-true, eq-eqb, ne_eqb}
use Rattle.words.specs.Word.{◌⊕◌}
use Rattle.words.specs.Lists.{All, none, more}
use Rattle.words.specs.Tests.{pick}
use Rattle.words.proofs.Ranges.{all_append}
use Rattle.keystream.proofs.Tables.{get_d-tab}
use Rattle.words.proofs.Table.{entries_by}
use Rattle.decim_buffer.specs.declared.Buffer.{Buffer}
use Rattle.decim_buffer.specs.Buffers.{set_bit, buffered, fed, fed_by, drawn, refilled}
use Rattle.decim_buffer.specs.Entries.{puts, unpacked}
use Rattle.decim_register.specs.Register.{bit_in}
use Rattle.decim_tables.specs.Absg.{t0, t2, absg_on, absg, tau_to, out_to, packed, nibble, entry_of}
use Rattle.decim_tables.specs.Tables.{absg_list}
use Rattle.decim_register.proofs.Weights.{Bit, xor-bit}
use Rattle.decim_buffer.proofs.Blocks.{fed-agree}
use Rattle.decim_buffer.proofs.Ranges.{absg-most}

abbrev with_t : ℕ → Buffer → Buffer
with_t t h = record { t = t; b = h.b; fill = h.fill }

-- bits put one after the other
placed : Buffer → List ℕ → Buffer
placed h [] = h
placed h (c ∷ l) = placed (buffered h.t h.b h.fill true c) l

placed_snoc : (h : Buffer) (l : List ℕ) (c : ℕ) → let p = placed h l in placed h (l ++ (c ∷ [])) ≡ buffered p.t p.b p.fill true c
unfolding placed
placed_snoc h [] c = refl
placed_snoc h (d ∷ l) c = placed_snoc (buffered h.t h.b h.fill true d) l c

-- B's buffer does not look at T
other-t : (t t' b i c : ℕ) → with_t t (buffered t' b i true c) ≡ buffered t b i true c
unfolding buffered
other-t t t' b i c = by (ltb i 32)
  where
    by : (e : Bool) → with_t t (pick e (record { t = t'; b = set_bit b i c; fill = i + 1 }) (record { t = t'; b = b; fill = i }))
        ≡ pick e (record { t = t; b = set_bit b i c; fill = i + 1 }) (record { t = t; b = b; fill = i })
    by true = refl
    by false = refl

fed-split : (f : ℕ → ℕ) (h : Buffer) (n : ℕ) → fed_by false f h n ≡ with_t (tau_to h.t f n) (placed h (out_to h.t f n))
unfolding fed_by fed tau_to out_to placed buffered
fed-split f h zero = refl
fed-split f h (suc n) =
    ap (λ (x : Buffer). fed false x (f n)) (fed-split f h n) ∙ by (eqb (t0 (tau_to h.t f (suc n))) 0)
  where
    p : Buffer
    p = placed h (out_to h.t f n)

    c : ℕ
    c = f n ⊕ t2 (tau_to h.t f n)

    by : (o : Bool) → buffered (tau_to h.t f (suc n)) p.b p.fill o c
        ≡ with_t (tau_to h.t f (suc n)) (placed h (pick o (out_to h.t f n ++ (c ∷ [])) (out_to h.t f n)))
    by true = sym (ap (with_t (tau_to h.t f (suc n))) (placed_snoc h (out_to h.t f n) c) ∙ other-t (tau_to h.t f (suc n)) p.t p.b p.fill c)
    by false = refl

-- ---- what does not matter, and what is so of every fk

tau-agree : (t : ℕ) (f g : ℕ → ℕ) (n : ℕ) → ((k : ℕ) → k < n → f k ≡ g k) → tau_to t f n ≡ tau_to t g n
unfolding tau_to
tau-agree t f g zero e = refl
tau-agree t f g (suc n) e = ap₂ absg (tau-agree t f g n (λ k q. e k (omega arith))) (e n (omega arith))

out-agree : (t : ℕ) (f g : ℕ → ℕ) (n : ℕ) → ((k : ℕ) → k < n → f k ≡ g k) → out_to t f n ≡ out_to t g n
unfolding out_to
out-agree t f g zero e = refl
out-agree t f g (suc n) e =
    let o = out-agree t f g n (λ k q. e k (omega arith)) in
    let a = tau-agree t f g (suc n) e in
    let b = tau-agree t f g n (λ k q. e k (omega arith)) in
    let c : f n ⊕ t2 (tau_to t f n) ≡ g n ⊕ t2 (tau_to t g n) = ap₂ (λ (x y : ℕ). x ⊕ t2 y) (e n (omega arith)) b in
    ap (λ (x : ℕ). pick (eqb (t0 x) 0) (out_to t f n ++ ((f n ⊕ t2 (tau_to t f n)) ∷ [])) (out_to t f n)) a
    ∙ ap₂ (λ (l : List ℕ) (x : ℕ). pick (eqb (t0 (tau_to t g (suc n))) 0) (l ++ (x ∷ [])) l) o c

out-bits : (t : ℕ) (f : ℕ → ℕ) (n : ℕ) → ((k : ℕ) → Bit (f k)) → All Bit (out_to t f n)
unfolding out_to
out-bits t f zero b = none
out-bits t f (suc n) b =
    by (eqb (t0 (tau_to t f (suc n))) 0) (out-bits t f n b) (xor-bit (b n) (mod-lt (tau_to t f n) (lit< tt)))
  where
    by : (o : Bool) {l : List ℕ} {c : ℕ} → All Bit l → Bit c → All Bit (pick o (l ++ (c ∷ [])) l)
    by true h k = all_append h (more k none)
    by false h k = h

-- only the three lowest bits of T matter
module _ (t : ℕ) (f : ℕ → ℕ) where
  low-tau : (n : ℕ) → tau_to t f (suc n) ≡ tau_to (t % 8) f (suc n)
  unfolding tau_to absg
  low-tau zero =
      let a : t / 4 % 2 ≡ t % 8 / 4 % 2 = omega arith in
      let b : t / 2 % 2 ≡ t % 8 / 2 % 2 = omega arith in
      ap₂ (λ (x y : ℕ). absg_on x y (f 0)) a b
  low-tau (suc n) = ap (λ (x : ℕ). absg x (f (suc n))) (low-tau n)

  low-t2 : (n : ℕ) → t2 (tau_to t f n) ≡ t2 (tau_to (t % 8) f n)
  unfolding tau_to
  low-t2 zero = omega arith
  low-t2 (suc n) = ap t2 (low-tau n)

  low-out : (n : ℕ) → out_to t f n ≡ out_to (t % 8) f n
  unfolding out_to
  low-out zero = refl
  low-out (suc n) =
      ap (λ (x : ℕ). pick (eqb (t0 x) 0) (out_to t f n ++ ((f n ⊕ t2 (tau_to t f n)) ∷ [])) (out_to t f n)) (low-tau n)
      ∙ ap₂ (λ (l : List ℕ) (x : ℕ). pick (eqb (t0 (tau_to (t % 8) f (suc n))) 0) (l ++ (f n ⊕ x ∷ [])) l) (low-out n) (low-t2 n)

-- ---- the table

abbrev row_of : ℕ → ℕ
row_of i = entry_of (i / 16) (i % 16)

out_of : ℕ → List ℕ
out_of i = out_to (i / 16) (nibble (i % 16)) 4

table-rule : (i : ℕ) → i < 128 → get_or absg_list i 0 ≡ row_of i
unfolding absg_list
table-rule i h = get_d-tab 128 row_of i h

table-few : (i : ℕ) → i < 128 → length (out_of i) ≤ 2
unfolding out_of tau_to out_to absg absg_on absg_list entry_of packed
table-few i h = says (leb (length (out_of i)) 2) refl (entries_by (λ x. 1) (λ k. pick (leb (length (out_of k)) 2) 1 0) absg_list tt i h)
  where
    says : (b : Bool) → leb (length (out_of i)) 2 ≡ b → ◌≡◌ {A = ℕ} 1 (pick b 1 0) → length (out_of i) ≤ 2
    says true e q = leb-true (length (out_of i)) 2 e
    says false e q = absurd (omega arith)

module _ (t g : ℕ) (ht : t < 8) (hg : g < 16) where
  row : (t * 16 + g) / 16 ≡ t
  row = omega arith

  column : (t * 16 + g) % 16 ≡ g
  column = omega arith

  pub entry-is : get_or absg_list (t * 16 + g) 0 ≡ entry_of t g
  entry-is = table-rule (t * 16 + g) (omega arith) ∙ ap₂ entry_of row column

  pub two-most : length (out_to t (nibble g) 4) ≤ 2
  unfolding out_of
  two-most =
      subst (λ (n : ℕ). length (out_to n (nibble g) 4) ≤ 2) row
      (subst (λ (n : ℕ). length (out_to ((t * 16 + g) / 16) (nibble n) 4) ≤ 2) column (table-few (t * 16 + g) (omega arith)))

-- ---- what the code does with an entry

unpacked-is : (h : Buffer) (e t n c d : ℕ) → e % 8 ≡ t → e / 8 % 4 ≡ n → e / 32 % 2 ≡ c → e / 64 % 2 ≡ d → unpacked h e ≡ puts t n c d h
unfolding unpacked
unpacked-is h e t n c d p q r s = λ i. puts (p i) (q i) (r i) (s i) h

put-packed : (h : Buffer) (t : ℕ) (l : List ℕ) → t < 8 → All Bit l → length l ≤ 2 → unpacked h (packed t l) ≡ with_t t (placed h l)
unfolding packed placed puts buffered
put-packed h t [] ht none q = unpacked-is h t t 0 0 0 (omega arith) (omega arith) (omega arith) (omega arith)
put-packed h t (c ∷ []) ht (more hc none) q = unpacked-is h (t + 8 + 32 * c) t 1 c 0 (omega arith) (omega arith) (omega arith) (omega arith) ∙ other-t t t h.b h.fill c ∙ sym (other-t t h.t h.b h.fill c)
put-packed h t (c ∷ d ∷ []) ht (more hc (more hd none)) q = unpacked-is h (t + 16 + 32 * c + 64 * d) t 2 c d (omega arith) (omega arith) (omega arith) (omega arith)
    ∙ (let x = buffered h.t h.b h.fill true c in
    ap (λ (y : Buffer). buffered t y.b y.fill true d) (sym (other-t t h.t h.b h.fill c)) ∙ sym (other-t t x.t x.b x.fill d))
put-packed h t (c ∷ d ∷ e ∷ l) ht k q = absurd (omega arith)

-- ---- four fk of a word

nibble-bit : (f k m : ℕ) → k < 8 → m < 4 → nibble (f / 2 ^ (28 - 4 * k) % 16) m ≡ bit_in f (4 * k + m)
nibble-bit f k m hk hm =
    let x = f / 2 ^ (28 - 4 * k) in
    let n : 4 ≡ m + 1 + (3 - m) = omega arith in
    let e : 28 - 4 * k + (3 - m) ≡ 31 - (4 * k + m) = omega arith in
    ap (λ (i : ℕ). x % 2 ^ i / 2 ^ (3 - m) % 2) n
    ∙ ap (λ (i : ℕ). i % 2) (field x (m + 1) (3 - m))
    ∙ mod-mod-pow (x / 2 ^ (3 - m)) m 1
    ∙ ap (λ (i : ℕ). i % 2) (shr-shr f (28 - 4 * k) (3 - m) ∙ ap (λ (i : ℕ). f / 2 ^ i) e)

module _ (h : Buffer) (f k : ℕ) (hk : k < 8) where
  abbrev g : ℕ
  g = f / 2 ^ (28 - 4 * k) % 16

  pub quick-is : unpacked h (get_or absg_list (h.t % 8 * 16 + g) 0) ≡ fed_by false (λ m. bit_in f (4 * k + m)) h 4
  unfolding entry_of tau_to
  quick-is =
      let hg : g < 16 = mod-lt (f / 2 ^ (28 - 4 * k)) (lit< tt) in
      let ht : h.t % 8 < 8 = mod-lt h.t (lit< tt) in
      let bits : (m : ℕ) → Bit (nibble g m) = λ m. mod-lt (g / 2 ^ (3 - m)) (lit< tt) in
      ap (unpacked h) (entry-is (h.t % 8) g ht hg)
      ∙ put-packed h (tau_to (h.t % 8) (nibble g) 4) (out_to (h.t % 8) (nibble g) 4) (small (nibble g) bits) (out-bits (h.t % 8) (nibble g) 4 bits)
      (two-most (h.t % 8) g ht hg)
      ∙ sym (fed-split (nibble g) h 4 ∙ ap₂ (λ (x : ℕ) (l : List ℕ). with_t x (placed h l)) (low-tau h.t (nibble g) 3) (low-out h.t (nibble g) 4))
      ∙ fed-agree false (nibble g) (λ m. bit_in f (4 * k + m)) h 4 (λ m q. nibble-bit f k m hk q)
    where
      small : (v : ℕ → ℕ) → ((m : ℕ) → Bit (v m)) → tau_to (h.t % 8) v 4 < 8
      small v b = let q = absg-most (tau_to (h.t % 8) v 3) (v 3) (b 3) in omega arith

-- ---- the two ways of Next

module _ (f : ℕ → ℕ) (h : Buffer) {d r : Buffer} (e : d ≡ drawn h) where
  pub refilled-empty : d.fill ≡ 0 → r ≡ fed_by true f d 4 → r ≡ refilled f h
  unfolding refilled
  refilled-empty z q =
      q ∙ ap (λ (x : Buffer). fed_by true f x 4) e
      ∙ sym (ap (λ (b : Bool). fed_by b f (drawn h) 4) (eq-eqb (drawn h).fill 0 (sym (ap (λ (x : Buffer). x.fill) e) ∙ z)))

  pub refilled-more : (d.fill ≡ 0 → ⊥) → r ≡ fed_by false f d 4 → r ≡ refilled f h
  unfolding refilled
  refilled-more n q =
      q ∙ ap (λ (x : Buffer). fed_by false f x 4) e
      ∙ sym (ap (λ (b : Bool). fed_by b f (drawn h) 4) (ne_eqb (drawn h).fill 0 (λ z. n (ap (λ (x : Buffer). x.fill) e ∙ z))))

-- A test by which two given lists of calls are found to be alike: each part of it is one of the claim's, call by call.
-- Assumes nothing.
use mathlib.Core.Path.{◌≡◌, refl, ap, sym, ◌∙◌}
use mathlib.Core.Bool.{Bool, true, false, not}
use mathlib.Core.List.{List, [], ◌∷◌}
use Prim.Native.Nat.{ℕ, zero, suc, ◌+◌}
use native.Mathlib.Omega.{arith}
use lib.Dec.{eqb}
use lib.ListN.{length, get_or, drop}
use lib.Seq.{ext_get_or}
use borrow.Author.Tests.{eqb-true, eqb-false, not-true}
use Rattle.words.specs.Tests.{both, pick}
use Rattle.words.proofs.Tests.{both_left, both_right}
use Rattle.ciphers.specs.Table.{cipher_at}
use Rattle.command.specs.Rows.{either}
use Rattle.command.specs.Decode.{Operands}
use Rattle.machine.specs.Machine.{Call, Machine, public, from_tray, key_field, cipher_for, blank_key, step}
use Rattle.trace.specs.Trace.{operands_at, uses_byte, AlikeFrom}

-- two strings agree at every place but those that a test names, the first being number i
abbrev pub agree : (ℕ → Bool) → ℕ → (xs ys : List ℕ) → Bool
agree u i [] [] = true
agree u i [] (y ∷ ys) = false
agree u i (x ∷ xs) [] = false
agree u i (x ∷ xs) (y ∷ ys) = both (either (u i) (eqb x y)) (agree u (suc i) xs ys)

no : {A : Type 0} → false ≡ true → A
no e = absurd (let z : ◌≡◌ {A = ℕ} 0 1 = ap (λ (b : Bool). pick b 1 0) e in omega (arith, z))

agreed-length : (u : ℕ → Bool) (i : ℕ) (xs ys : List ℕ) → agree u i xs ys ≡ true → length xs ≡ length ys
agreed-length u i [] [] h = refl
agreed-length u i [] (y ∷ ys) h = no h
agreed-length u i (x ∷ xs) [] h = no h
agreed-length u i (x ∷ xs) (y ∷ ys) h = ap suc (agreed-length u (suc i) xs ys (both_right (either (u i) (eqb x y)) _ h))

agreed : (u : ℕ → Bool) (i : ℕ) (xs ys : List ℕ) → agree u i xs ys ≡ true → (j : ℕ) → u (i + j) ≡ false → get_or xs j 0 ≡ get_or ys j 0
agreed u i [] [] h j q = refl
agreed u i [] (y ∷ ys) h j q = no h
agreed u i (x ∷ xs) [] h j q = no h
agreed u i (x ∷ xs) (y ∷ ys) h zero q =
    let z : u i ≡ false = ap u (let e : i ≡ i + 0 = omega arith in e) ∙ q in
    eqb-true x y (ap (λ (b : Bool). either b (eqb x y)) (sym z) ∙ both_left (either (u i) (eqb x y)) _ h)
agreed u i (x ∷ xs) (y ∷ ys) h (suc j) q =
    agreed u (suc i) xs ys (both_right (either (u i) (eqb x y)) _ h) j (ap u (let e : suc i + j ≡ i + suc j = omega arith in e) ∙ q)

-- two strings that agree everywhere
abbrev pub same : List ℕ → List ℕ → Bool
same xs ys = agree (λ i. false) 0 xs ys

same-is : (xs ys : List ℕ) → same xs ys ≡ true → xs ≡ ys
same-is xs ys h = ext_get_or 0 xs ys (agreed-length (λ i. false) 0 xs ys h) (λ j _. agreed (λ i. false) 0 xs ys h j refl)

abbrev pub alike : Bool → Bool → Bool
alike true b = b
alike false b = not b

alike_is : (a b : Bool) → alike a b ≡ true → a ≡ b
alike_is true b h = sym h
alike_is false b h = sym (not-true b h)

-- ---- calls

-- the parts of the test, in the order of the claim
abbrev pub parts_of : (o : Operands) (c : ℕ) (a b : Call) → List Bool
parts_of o c a b =
    agree (uses_byte o c) 0 a.command b.command
    ∷ eqb (length a.tray) (length b.tray)
    ∷ eqb (length a.text) (length b.text)
    ∷ eqb (length a.out) (length b.out)
    ∷ not (eqb o.kind 5)
    ∷ pick (from_tray o) (same (drop (cipher_at c).key (key_field o a)) (drop (cipher_at c).key (key_field o b))) true
    ∷ alike (blank_key c (key_field o a)) (blank_key c (key_field o b))
    ∷ []

abbrev pub every : List Bool → Bool
every [] = true
every (b ∷ bs) = both b (every bs)

abbrev Holds : List Bool → Type 0
Holds [] = Unit {0}
Holds (b ∷ bs) = (b ≡ true) × Holds bs

every_holds : (bs : List Bool) → every bs ≡ true → Holds bs
every_holds [] h = tt
every_holds (b ∷ bs) h = (both_left b (every bs) h, every_holds bs (both_right b (every bs) h))

abbrev pub alike_tests : Machine → List Call → List Call → Bool
alike_tests m [] [] = true
alike_tests m [] (b ∷ more') = false
alike_tests m (a ∷ more) [] = false
alike_tests m (a ∷ more) (b ∷ more') = both (every (parts_of (operands_at a.command) (cipher_for (operands_at a.command) (public m)) a b)) (alike_tests (step m a).machine more more')

-- what holds of the first and of those behind it holds of each
of-each : (P : ℕ → Type 0) → P 0 → ((n : ℕ) → P (suc n)) → (n : ℕ) → P n
of-each P h k zero = h
of-each P h k (suc n) = k n

-- the first call of two lists, before two that are alike
alike-before : (m : Machine) (a b : Call) (more more' : List Call) → Holds (parts_of (operands_at a.command) (cipher_for (operands_at a.command) (public m)) a b) →
    AlikeFrom (step m a).machine more more' → AlikeFrom m (a ∷ more) (b ∷ more')
alike-before m a b more more' h r =
    let o = operands_at a.command in
    let c = cipher_for o (public m) in
    let n = (cipher_at c).key in
    record {
      as_many = ap suc r.as_many;
      command-length = of-each _ (agreed-length (uses_byte o c) 0 a.command b.command h.0) r.command-length;
      tray-length = of-each _ (eqb-true _ _ h.1.0) r.tray-length;
      text-length = of-each _ (eqb-true _ _ h.1.1.0) r.text-length;
      out-length = of-each _ (eqb-true _ _ h.1.1.1.0) r.out-length;
      no-resume = of-each _ (eqb-false o.kind 5 (not-true _ h.1.1.1.1.0)) r.no-resume;
      command = of-each _ (λ i q. agreed (uses_byte o c) 0 a.command b.command h.0 i (ap (uses_byte o c) (let e : 0 + i ≡ i = omega arith in e) ∙ q)) r.command;
      beyond-key =
          of-each _
          (λ k. same-is (drop n (key_field o a)) (drop n (key_field o b)) (sym (ap (λ (b' : Bool). pick b' (same (drop n (key_field o a)) (drop n (key_field o b))) true) k) ∙ h.1.1.1.1.1.0))
          r.beyond-key;
      blank = of-each _ (alike_is (blank_key c (key_field o a)) (blank_key c (key_field o b)) h.1.1.1.1.1.1.0) r.blank;
    }

-- two lists that pass the test are alike
pub lists-tested : (calls calls' : List Call) (m : Machine) → alike_tests m calls calls' ≡ true → AlikeFrom m calls calls'
lists-tested [] [] m h =
    record {
      as_many = refl;
      command-length = λ n. refl;
      tray-length = λ n. refl;
      text-length = λ n. refl;
      out-length = λ n. refl;
      no-resume = λ n e. absurd (omega (arith, e));
      command = λ n i q. refl;
      beyond-key = λ n k. refl;
      blank = λ n. refl;
    }
lists-tested [] (b ∷ more') m h = no h
lists-tested (a ∷ more) [] m h = no h
lists-tested (a ∷ more) (b ∷ more') m h =
    let t = parts_of (operands_at a.command) (cipher_for (operands_at a.command) (public m)) a b in
    alike-before m a b more more' (every_holds t (both_left (every t) _ h)) (lists-tested more more' (step m a).machine (both_right (every t) _ h))

-- What is printed is the text of the constant tables: each is the table of its polynomials, and they stand one behind the other.
-- Assumes nothing.
use mathlib.Core.Path.{◌≡◌, refl, sym, ap, ◌∙◌, subst}
use mathlib.Core.List.{List}
use Prim.Native.Nat.{ℕ, ◌+◌, ◌*◌}
use lib.ListN.{length}
use Rattle.field.specs.Gf32.{over_alpha}
use Rattle.snow2_tables.specs.Tables.{field, alpha_inv, alpha_list, inverse_list}
use Rattle.snow2_tables.proofs.Rules.{alpha-rule, inverse-rule, inverse-worked}
use Rattle.kcipher2_tables.specs.Tables.{field0, field1, field2, field3, alpha0_list, alpha1_list, alpha2_list, alpha3_list}
use Rattle.kcipher2_tables.proofs.Rules.{alpha0-rule, alpha1-rule, alpha2-rule, alpha3-rule}
use Rattle.text.specs.Text.{Behind, Written}
use Rattle.text.specs.declared.Text.{Text}
use Rattle.text.proofs.Pieces.{behind-length, behind_more, behind-full}
use Rattle.table_rules.specs.Rules.{products_of, substitution_of}
use Rattle.table_rules.proofs.Tables.{products-are, substitution-is}
use Rattle.tables_text.specs.Tables.{table_text, tables_text}

-- ---- each table, by its polynomials

alpha-is : products_of 0x1a9 0xe19fcf13 ≡ alpha_list
unfolding alpha_list
alpha-is = products-are field field.y4 alpha_list refl alpha-rule

inverse-is : products_of 0x1a9 (over_alpha 0x1a9 0xe19fcf13) ≡ inverse_list
unfolding inverse_list
inverse-is = ap (products_of 0x1a9) inverse-worked ∙ products-are field alpha_inv inverse_list refl inverse-rule

alpha0-is : products_of 0x1c3 0xb6086d1a ≡ alpha0_list
unfolding alpha0_list
alpha0-is = products-are field0 field0.y4 alpha0_list refl alpha0-rule

alpha1-is : products_of 0x12d 0xa0f5fc2e ≡ alpha1_list
unfolding alpha1_list
alpha1-is = products-are field1 field1.y4 alpha1_list refl alpha1-rule

alpha2-is : products_of 0x14d 0x5bf87f93 ≡ alpha2_list
unfolding alpha2_list
alpha2-is = products-are field2 field2.y4 alpha2_list refl alpha2-rule

alpha3-is : products_of 0x165 0x4559568b ≡ alpha3_list
unfolding alpha3_list
alpha3-is = products-are field3 field3.y4 alpha3_list refl alpha3-rule

-- ---- all of them

-- the text of a table is that of an equal one
same_text : (w : ℕ) {at r : ℕ} {t l before out : List ℕ} → t ≡ l → Behind (table_text w t) at before out r → Behind (table_text w l) at before out r
same_text w {at} {r} {before = before} {out} e b = subst (λ (x : List ℕ). Behind (table_text w x) at before out r) e b

pub printed-is : {before o1 o2 o3 o4 o5 o6 o7 : List ℕ} {v a b c d e f g : ℕ} → v ≡ over_alpha 0x1a9 0xe19fcf13 → length before ≡ 14592
    → g ≡ 14592
    → Behind (table_text 2 (substitution_of 0x11b)) 0 before o1 a
    → Behind (table_text 8 (products_of 0x1a9 0xe19fcf13)) a o1 o2 b → Behind (table_text 8 (products_of 0x1a9 v)) b o2 o3 c
    → Behind (table_text 8 (products_of 0x1c3 0xb6086d1a)) c o3 o4 d → Behind (table_text 8 (products_of 0x12d 0xa0f5fc2e)) d o4 o5 e
    → Behind (table_text 8 (products_of 0x14d 0x5bf87f93)) e o5 o6 f → Behind (table_text 8 (products_of 0x165 0x4559568b)) f o6 o7 g
    → (o7 ≡ tables_text) × (14592 ≡ length o7)
unfolding tables_text
printed-is i l q h0 h1 h2 h3 h4 h5 h6 =
    let p1 = behind_more (same_text 2 substitution-is h0) (same_text 8 alpha-is h1) in
    let p2 = behind_more p1 (same_text 8 (ap (products_of 0x1a9) i ∙ inverse-is) h2) in
    let p3 = behind_more p2 (same_text 8 alpha0-is h3) in
    let p4 = behind_more p3 (same_text 8 alpha1-is h4) in
    let p5 = behind_more p4 (same_text 8 alpha2-is h5) in
    let p6 = behind_more p5 (same_text 8 alpha3-is h6) in
    (behind-full p6 (q ∙ sym l), sym (behind-length p6 ∙ l))

-- the same of tables that are worked out first, each put behind the ones before it
module _ {t0 t1 t2 t3 t4 t5 t6 : List ℕ} {v : ℕ} {a b c d e f g h : Text} where
  pub printed-by : a.len ≡ 0 → length a.out.now ≡ 14592 → v ≡ over_alpha 0x1a9 0xe19fcf13
      → t0 ≡ substitution_of 0x11b → t1 ≡ products_of 0x1a9 0xe19fcf13 → t2 ≡ products_of 0x1a9 v → t3 ≡ products_of 0x1c3 0xb6086d1a
      → t4 ≡ products_of 0x12d 0xa0f5fc2e → t5 ≡ products_of 0x14d 0x5bf87f93 → t6 ≡ products_of 0x165 0x4559568b
      → Written (table_text 2 t0) a b → Written (table_text 8 t1) b c → Written (table_text 8 t2) c d → Written (table_text 8 t3) d e
      → Written (table_text 8 t4) e f → Written (table_text 8 t5) f g → Written (table_text 8 t6) g h
      → h.len ≡ 14592
      → (h.out.now ≡ tables_text) × (14592 ≡ length h.out.now)
  printed-by z l i e0 e1 e2 e3 e4 e5 e6 h0 h1 h2 h3 h4 h5 h6 q =
      printed-is i l q (subst (λ (n : ℕ). Behind (table_text 2 (substitution_of 0x11b)) n a.out.now b.out.now b.len) z (same_text 2 e0 h0.behind))
      (same_text 8 e1 h1.behind) (same_text 8 e2 h2.behind) (same_text 8 e3 h3.behind) (same_text 8 e4 h4.behind) (same_text 8 e5 h5.behind) (same_text 8 e6 h6.behind)

-- A row's judgement depends on the codes of the names that the row uses, and on no other declaration. Assumes nothing.
use Rattle.std.specs.Prelude.{Ok}
use Prim.Native.Nat.{ℕ, ◌+◌, ◌<◌}
use mathlib.Core.Bool.{Bool, true, false, cond, ◌||◌}
use mathlib.Core.List.{List, [], ◌∷◌}
use mathlib.Core.Logic.{⊎_elim}
use mathlib.Core.Path.{◌≡◌, refl, sym, ap, ◌∙◌}
use native.Mathlib.Omega.{arith}
use borrow.Author.Tests.{ltb-true, eqb-true, eqb-false, eq-eqb}
use lib.Dec.{eqb}
use Rattle.tables.specs.Cases.{case_of}
use Rattle.tables.specs.Family as family
use Rattle.tables.specs.Source as source
use Rattle.tables.specs.NodeTag as tag
use Rattle.tables.specs.Names.{operands_of, names_first, names_second, names_source}
use Rattle.tables.specs.Rows.{node_at}
use Rattle.tables.specs.declared.rows.Node.{Node}
use Rattle.tables.specs.declared.rows.Instruction.{Instruction}
use Rattle.tables.proofs.Cases.{by_key, past_keys}
use Rattle.tables.proofs.FirstLaws.{never}
use Rattle.word_rules.specs.Instruction.{form_allowed}
use Rattle.type_rules.specs.Judgement.{pass}
use Rattle.type_rules.specs.Rule.{rules, rule_of}
use Rattle.type_rules.specs.Codes.{code_of, reference_code, operand_code, source_code, row_rule}
use Rattle.type_check.specs.Frame.{address_rule, node_verdicts, node_verdict, is_failure, at_place, tree_rule, tree_verdict, frame_rule}
use Rattle.type_check.specs.Check.{judgement_of}
use Rattle.type_check.specs.Names.{operand_named, address_named, node_named, row_named}
use Rattle.type_rules.proofs.CodeLaws.{source_is}
use Rattle.type_check.proofs.Searches.{searched, same_search}

-- ---- a row that is no frame

-- "2 binary logic (no real literal)"
pub logic_form : (form : ℕ) → (eqb form source.integer_literal || eqb form source.reference) ≡ true → form < source.none
logic_form form e = at (eqb form source.integer_literal) refl e
  where
    at : (t : Bool) → eqb form source.integer_literal ≡ t → (t || eqb form source.reference) ≡ true → form < source.none
    at true z h = omega (arith, eqb-true form source.integer_literal z)
    at false z h = omega (arith, eqb-true form source.reference h)

reference-form : (form : ℕ) → names_source form ≡ true → form < source.none
reference-form form e = omega (arith, eqb-true form source.reference e)

-- the rule of a family looks only at the operands that take part in it
module _ (operator form d d' e e' s s' : ℕ) where
  abbrev pub Same : ℕ → Type 0
  Same f = form_allowed f form ≡ true → (names_first f ≡ true → d ≡ d') → (names_second f ≡ true → e ≡ e') → (form < source.none → s ≡ s')
      → rule_of f operator d e s ≡ rule_of f operator d' e' s'

  pub same_rule : (f : ℕ) → Same f
  unfolding rule_of form_allowed names_first names_second operands_of case_of
  same_rule f =
      by_key Same
      (
      (family.arithmetic, λ a p q r. rw (p refl, r (ltb-true form source.none a)))
      ∷ (family.comparison, λ a p q r. rw (p refl, q refl, r (ltb-true form source.none a)))
      ∷ (family.binary_logic, λ a p q r. rw (p refl, r (logic_form form a)))
      ∷ (family.unary, λ a p q r. rw (p refl))
      ∷ (family.move, λ a p q r. rw (p refl, r (ltb-true form source.none a)))
      ∷ (family.exchange, λ a p q r. rw (p refl, q refl))
      ∷ (family.load, λ a p q r. rw (p refl, q refl, r (reference-form form a)))
      ∷ (family.store, λ a p q r. rw (p refl, q refl, r (ltb-true form source.none a)))
      ∷ []
      )
      f
      (λ past a p q r. past_keys past (rules operator d e s) pass refl ∙ sym (past_keys past (rules operator d' e' s') pass refl))

module _ (regions regions' : List ℕ) (x : Instruction) (allowed : form_allowed x.family x.source_form ≡ true) where
  same_source : (names_source x.source_form ≡ true → reference_code regions x ≡ reference_code regions' x) → x.source_form < source.none → source_code regions x ≡ source_code regions' x
  unfolding operand_code case_of
  same_source h l = source_is regions x allowed ∙ at (eqb x.source_form 0) (eqb x.source_form 1) refl refl ∙ sym (source_is regions' x allowed)
    where
      codes : Bool → Bool → List ℕ → ℕ
      codes integer real rs = cond integer 4 (cond real 5 (reference_code rs x))

      at : (integer real : Bool) → eqb x.source_form 0 ≡ integer → eqb x.source_form 1 ≡ real → codes integer real regions ≡ codes integer real regions'
      at true real p q = refl
      at false true p q = refl
      at false false p q = h (eq-eqb x.source_form 2 (omega (arith, eqb-false x.source_form 0 p, eqb-false x.source_form 1 q)))

or_true : (b : Bool) → b || true ≡ true
or_true true = refl
or_true false = refl

module _ (x : Instruction) where
  first-named : names_first x.family ≡ true → operand_named x x.first_name ≡ true
  unfolding operand_named
  first-named u = rw (u, eq-eqb x.first_name _ refl)

  second-named : names_second x.family ≡ true → operand_named x x.second_name ≡ true
  unfolding operand_named
  second-named u = rw (u, eq-eqb x.second_name _ refl, or_true)

  source-named : names_source x.source_form ≡ true → operand_named x x.source_first ≡ true
  unfolding operand_named
  source-named u = rw (u, eq-eqb x.source_first _ refl) (simp or_true)

module _ (regions regions' : List ℕ) (x : Instruction) where
  -- the row's form is one that the loader allows
  pub same_operands : form_allowed x.family x.source_form ≡ true → ((name : ℕ) → operand_named x name ≡ true → code_of regions name ≡ code_of regions' name) → row_rule regions x ≡ row_rule regions' x
  unfolding row_rule
  same_operands a h =
      same_rule x.operator x.source_form _ _ _ _ _ _ x.family a (λ u. h _ (first-named x u)) (λ u. h _ (second-named x u))
      (same_source regions regions' x a (λ v. h _ (source-named x v)))

-- ---- a frame

-- an address in the expression is named
address-named : (nodes : List ℕ) (x : Instruction) (k : ℕ) → k < x.first_index → (node_at nodes (x.first_name + k)).tag ≡ tag.address → node_named nodes x (node_at nodes (x.first_name + k)).first ≡ true
unfolding node_named
address-named nodes x k l t =
    ⊎_elim (λ h. h.is)
    (λ m.
    let f : address_named (node_at nodes (x.first_name + k)) (node_at nodes (x.first_name + k)).first ≡ false = m.1.fails k (omega arith) (omega arith) in
    let g : address_named (node_at nodes (x.first_name + k)) (node_at nodes (x.first_name + k)).first ≡ true = rw (eq-eqb _ 0 t, eq-eqb (node_at nodes (x.first_name + k)).first _ refl) in
    never (sym f ∙ g))
    (searched _ _ _ 0 x.first_index)

module _ (regions regions' nodes : List ℕ) (x : Instruction) where
  pub same_node : (node : Node) → (node.tag ≡ tag.address → code_of regions node.first ≡ code_of regions' node.first) → node_verdict regions node ≡ node_verdict regions' node
  unfolding node_verdict case_of
  same_node node h =
      by_key (λ t. node.tag ≡ t → case_of t (node_verdicts regions node) (Ok tt) ≡ case_of t (node_verdicts regions' node) (Ok tt))
      ((tag.address, λ e. ap address_rule (h e)) ∷ (tag.number, λ e. refl) ∷ (tag.variable, λ e. refl) ∷ [])
      node.tag
      (λ past e. past_keys past (node_verdicts regions node) (Ok tt) refl ∙ sym (past_keys past (node_verdicts regions' node) (Ok tt) refl))
      refl

  same_frame : ((name : ℕ) → node_named nodes x name ≡ true → code_of regions name ≡ code_of regions' name) → frame_rule regions nodes x ≡ frame_rule regions' nodes x
  unfolding frame_rule tree_verdict
  same_frame h =
      ap tree_rule
      (same_search _ _ _ _ (Ok tt) 0 x.first_index
      (λ k l u.
      let e = same_node (node_at nodes (x.first_name + k)) (λ t. h _ (address-named nodes x k (omega arith) t)) in
      (ap is_failure e, ap (at_place k) e)))

  -- a row's judgement depends on the codes of the names that it uses, where its form is one that the loader allows
  pub same_judgement : form_allowed x.family x.source_form ≡ true → ((name : ℕ) → row_named nodes x name ≡ true → code_of regions name ≡ code_of regions' name) → judgement_of regions nodes x ≡ judgement_of regions' nodes x
  unfolding judgement_of row_named
  same_judgement a h = at (eqb x.family family.frame) h
    where
      at : (t : Bool) → ((name : ℕ) → cond t (node_named nodes x name) (operand_named x name) ≡ true → code_of regions name ≡ code_of regions' name)
          → cond t (frame_rule regions nodes x) (row_rule regions x) ≡ cond t (frame_rule regions' nodes x) (row_rule regions' x)
      at true g = same_frame g
      at false g = same_operands regions regions' x a g

-- What the typing rules say of the kinds that the machine meets: one computed test for each family over all codes, lifted to every code. Assumes nothing.
use Prim.Native.Nat.{ℕ, ◌<◌}
use mathlib.Core.Bool.{Bool, true, false, not, ◌||◌, ◌&&◌}
use mathlib.Core.Path.{◌≡◌, refl, ap}
use mathlib.Core.List.{List, [], ◌∷◌}
use mathlib.Core.Logic.{inl, inr, ⊎_elim}
use native.Mathlib.Omega.{arith}
use lib.Dec.{eqb, ltb}
use Rattle.words.specs.Kind.{width_of}
use Rattle.tables.specs.Cases.{case_of}
use Rattle.tables.specs.First.{first, every}
use Rattle.tables.specs.Operator as operator
use Rattle.tables.proofs.Cases.{by_key, past_first}
use Rattle.word_rules.specs.Instruction.{up_to}
use Rattle.tables.proofs.Passed.{both}
use Rattle.type_rules.specs.Judgement.{Judgement, pass, passes}
use Rattle.type_rules.specs.Rule as T
use Rattle.type_rules.proofs.CodeLaws.{Code, every_code, each_code}
use Rattle.operators.specs.Operators.{arithmetic_kinds, comparison_kinds, logic_kinds, unary_kinds}
use Rattle.operators.specs.Convert.{convert_kinds, converted_kind, convertible}

-- ---- tests that all hold

abbrev pub all_of : List Bool → Bool
all_of [] = true
all_of (t ∷ ts) = t && all_of ts

abbrev pub Trues : List Bool → Type 0
Trues [] = Unit {0}
Trues (t ∷ ts) = (t ≡ true) × Trues ts

trues : (ts : List Bool) → all_of ts ≡ true → Trues ts
trues [] e = tt
trues (t ∷ ts) e = ((both t (all_of ts) e).0, trues ts (both t (all_of ts) e).1)

implied : (a b : Bool) → (not a || b) ≡ true → a ≡ true → b ≡ true
implied true b e h = e
implied false b e h = cc

-- wherever the rule passes, what is wanted holds
abbrev implies : Judgement → List Bool → Bool
implies rule wants = not (passes rule) || all_of wants

-- ---- lifted to every code

-- a rule of one, two and three codes, the source's last
given₁ : (n : ℕ) (rule : ℕ → Judgement) (wants : ℕ → List Bool) → every_code n (λ s. implies (rule s) (wants s)) ≡ true
    → (s : ℕ) → Code n s → rule s ≡ pass → Trues (wants s)
given₁ n rule wants t s c h =
    trues (wants s) (implied (passes (rule s)) (all_of (wants s)) (each_code n (λ s. implies (rule s) (wants s)) t s c) (ap passes h))

given₂ : (rule : ℕ → ℕ → Judgement) (wants : ℕ → ℕ → List Bool) → every_code 4 (λ d. every_code 6 (λ s. implies (rule d s) (wants d s))) ≡ true
    → (d s : ℕ) → Code 4 d → Code 6 s → rule d s ≡ pass → Trues (wants d s)
given₂ rule wants t d s c = given₁ 6 (rule d) (wants d) (each_code 4 (λ d. every_code 6 (λ s. implies (rule d s) (wants d s))) t d c) s

given₃ : (rule : ℕ → ℕ → ℕ → Judgement) (wants : ℕ → ℕ → ℕ → List Bool)
    → every_code 4 (λ d. every_code 4 (λ e. every_code 6 (λ s. implies (rule d e s) (wants d e s)))) ≡ true
    → (d e s : ℕ) → Code 4 d → Code 4 e → Code 6 s → rule d e s ≡ pass → Trues (wants d e s)
given₃ rule wants t d e s c =
    given₂ (rule d) (wants d) (each_code 4 (λ d. every_code 4 (λ e. every_code 6 (λ s. implies (rule d e s) (wants d e s)))) t d c) e s

-- ---- what is wanted of a family's codes: the operands are declared, and the machine has a rule for their kinds

abbrev pub declared : ℕ → Bool
declared code = ltb code 8

abbrev pub arithmetic_wants : ℕ → ℕ → List Bool
arithmetic_wants d s = declared d ∷ declared s ∷ arithmetic_kinds d s ∷ eqb (width_of d) 64 ∷ []

pub arithmetic_wants_lem : (d s : ℕ) → Code 4 d → Code 6 s → T.arithmetic_rule d s ≡ pass → Trues (arithmetic_wants d s)
unfolding first every width_of T.arithmetic_rule T.arithmetic_source
arithmetic_wants_lem = given₂ T.arithmetic_rule arithmetic_wants refl

abbrev pub comparison_wants : ℕ → ℕ → ℕ → List Bool
comparison_wants d l s = declared d ∷ declared l ∷ declared s ∷ eqb d 0 ∷ comparison_kinds l s ∷ []

pub comparison_wants_lem : (d l s : ℕ) → Code 4 d → Code 4 l → Code 6 s → T.comparison_rule d l s ≡ pass → Trues (comparison_wants d l s)
unfolding first every T.comparison_rule T.source_rule
comparison_wants_lem = given₃ T.comparison_rule comparison_wants refl

abbrev pub logic_wants : ℕ → ℕ → List Bool
logic_wants d s = declared d ∷ declared s ∷ logic_kinds d s ∷ []

pub logic_wants_lem : (d s : ℕ) → Code 4 d → Code 6 s → T.logic_rule d s ≡ pass → Trues (logic_wants d s)
unfolding first every T.logic_rule T.logic_source
logic_wants_lem = given₂ T.logic_rule logic_wants refl

-- NEG is of the kinds of 64 bits
abbrev pub unary_wants : ℕ → ℕ → List Bool
unary_wants which d = declared d ∷ unary_kinds which d ∷ (not (eqb which operator.neg) || eqb (width_of d) 64) ∷ []

pub unary_wants_lem : (d which : ℕ) → Code 4 d → which < up_to operator.not → T.unary_rule which d ≡ pass → Trues (unary_wants which d)
unfolding first every width_of case_of unary_kinds T.unary_rule
unary_wants_lem d which c =
    by_key (λ o. o < up_to operator.not → T.unary_rule o d ≡ pass → Trues (unary_wants o d))
    (
    (operator.neg, λ l. given₁ 4 (T.unary_rule operator.neg) (unary_wants operator.neg) refl d c)
    ∷ (operator.not, λ l. given₁ 4 (T.unary_rule operator.not) (unary_wants operator.not) refl d c)
    ∷ []
    )
    which
    (λ past l e. absurd (omega (arith, past_first (up_to operator.not) past refl)))

-- a source that is put into a cell fits as one that is compared
abbrev pub move_wants : ℕ → ℕ → List Bool
move_wants d s = declared d ∷ declared s ∷ comparison_kinds d s ∷ []

pub move_wants_lem : (d s : ℕ) → Code 4 d → Code 6 s → T.move_rule d s ≡ pass → Trues (move_wants d s)
unfolding first every T.move_rule T.source_rule
move_wants_lem = given₂ T.move_rule move_wants refl

abbrev pub exchange_wants : ℕ → ℕ → List Bool
exchange_wants d e = declared d ∷ declared e ∷ eqb d e ∷ []

pub exchange_wants_lem : (d e : ℕ) → Code 4 d → Code 4 e → T.exchange_rule d e ≡ pass → Trues (exchange_wants d e)
unfolding first every T.exchange_rule
exchange_wants_lem d e c₁ c₂ = given₂ T.exchange_rule exchange_wants refl d e c₁ (⊎_elim (λ h. inl (omega arith)) inr c₂)

abbrev pub load_wants : ℕ → ℕ → ℕ → List Bool
load_wants d e o = declared d ∷ declared e ∷ declared o ∷ eqb o 1 ∷ eqb d e ∷ []

pub load_wants_lem : (d e o : ℕ) → Code 4 d → Code 4 e → Code 6 o → T.load_rule d e o ≡ pass → Trues (load_wants d e o)
unfolding first every T.load_rule T.load_offset
load_wants_lem = given₃ T.load_rule load_wants refl

abbrev pub store_wants : ℕ → ℕ → ℕ → List Bool
store_wants d o s = declared d ∷ declared o ∷ declared s ∷ eqb o 1 ∷ comparison_kinds d s ∷ []

pub store_wants_lem : (d o s : ℕ) → Code 4 d → Code 4 o → Code 6 s → T.store_rule d o s ≡ pass → Trues (store_wants d o s)
unfolding first every T.store_rule T.store_source
store_wants_lem = given₃ T.store_rule store_wants refl

-- what is wanted of a CONVERT's codes, by the pairs that 22 passes
abbrev pub convert_wants : ℕ → ℕ → List Bool
convert_wants d s = declared d ∷ declared s ∷ convert_kinds s ∷ eqb d (converted_kind s) ∷ eqb (width_of d) 64 ∷ []

pub convert_wants_lem : (d s : ℕ) → Code 4 d → Code 4 s → convertible d s ≡ true → Trues (convert_wants d s)
unfolding first every width_of
convert_wants_lem d s c e h =
    trues (convert_wants d s)
    (implied (convertible d s) (all_of (convert_wants d s))
    (each_code 4 (λ s. not (convertible d s) || all_of (convert_wants d s)) (each_code 4 (λ d. every_code 4 (λ s. not (convertible d s) || all_of (convert_wants d s))) refl d c) s e) h)

-- Laws of `gather`, `flat` and `Stored`: a loop over the arguments that writes their rows, from its start to its end. Assumes nothing.
use Rattle.std.proofs.Common.{Result}
use Prim.Native.Nat.{ℕ, suc, ◌+◌, ◌-◌, ◌*◌, ◌<◌, ◌≤◌}
use mathlib.Core.Path.{◌≡◌, refl, sym, ◌∙◌}
use mathlib.Core.List.{List, [], ◌∷◌, ◌++◌, append-nil, append_assoc}
use native.Mathlib.Nat.{add-mul}
use native.Mathlib.Omega.{arith}
use lib.ListN.{length, set, length-append}
use lib.Seq.{sets}
use Rattle.tables.proofs.FirstLaws.{left_suc}
use Rattle.extern_call.specs.Gather.{gather, flat}
use Rattle.extern_call.specs.Inner.{Stored}
use Rattle.extern_call.specs.Rows.{resolving, with_rows}
use Rattle.extern_call.specs.declared.rows.ResolveError.{ResolveError}

module _ {A : Type 0} (f : ℕ → List A) (n i : ℕ) where
  pub gather-turn : i < n → gather f i (n - i) ≡ f i ++ gather f (i + 1) (n - (i + 1))
  unfolding gather
  gather-turn h = rw (left_suc n i h)

  pub gather-end : n ≤ i → gather f i (n - i) ≡ []
  unfolding gather
  gather-end h = let e : n - i ≡ 0 = omega arith in rw e

pub gather-all : {A : Type 0} (f : ℕ → List A) (n : ℕ) → gather f 0 (n - 0) ≡ gather f 0 n
gather-all f n = let e : n - 0 ≡ n = omega arith in rw e

pub flat_append : {A : Type 0} (row : A → List ℕ) (a b : List A) → flat row (a ++ b) ≡ flat row a ++ flat row b
unfolding flat
flat_append row [] b = refl
flat_append row (x ∷ a) b = rw (flat_append row a b) (sym (append_assoc (row x) (flat row a) (flat row b)))

pub sets-append : (a b l : List ℕ) (i : ℕ) → sets l i (a ++ b) ≡ sets (sets l i a) (i + length a) b
sets-append [] b l i = let e : i + 0 ≡ i = omega arith in rw e
sets-append (x ∷ a) b l i = sets-append a b (set l i x) (suc i) ∙ (let e : suc i + length a ≡ i + suc (length a) = omega arith in rw e)

module _ {A : Type 0} (row : A → List ℕ) (width count : ℕ) (l : List ℕ) where
  pub none_stored : Stored row width count [] l l count
  unfolding flat
  none_stored = record { total = omega arith; words = refl }

  pub one_stored : (a : A) (l' : List ℕ) → l' ≡ sets l (count * width) (row a) → Stored row width count (a ∷ []) l l' (count + 1)
  unfolding flat
  one_stored a l' e = record { total = refl; words = rw append-nil e }

-- the rows of the arguments before i are written, at most one each: to write the rest from here gives what to write all gives from the start
pub record Written {A : Type 0} (row : A → List ℕ) (width : ℕ) (f : ℕ → List A) (n : ℕ) (before now : List ℕ) (count i : ℕ) : Type 0 where
  pub turns : i ≤ n
  pub few : count ≤ i
  pub same : length now ≡ length before
  pub rest : sets now (count * width) (flat row (gather f i (n - i))) ≡ sets before 0 (flat row (gather f 0 n))
  pub total : count + length (gather f i (n - i)) ≡ length (gather f 0 n)

module _ {A : Type 0} (row : A → List ℕ) (width : ℕ) (f : ℕ → List A) (n : ℕ) (before : List ℕ) where
  pub written_start : Written row width f n before before 0 0
  written_start =
      let z : 0 * width ≡ 0 = omega arith in
      record { turns = omega arith; few = omega arith; same = refl; rest = rw (z, gather-all f n); total = rw (gather-all f n) (omega arith) }

  pub written_turn : (now now' : List ℕ) (count count' i : ℕ) → i < n → length (f i) ≤ 1 → length (flat row (f i)) ≡ length (f i) * width
      → Written row width f n before now count i → length now' ≡ length now → Stored row width count (f i) now now' count'
      → Written row width f n before now' count' (i + 1)
  written_turn now now' count count' i h one wide w kept s =
      let rest = gather f (i + 1) (n - (i + 1)) in
      let at : count' * width ≡ count * width + length (flat row (f i)) = rw (s.total, add-mul, wide) in
      let t : count + length (f i ++ rest) ≡ length (gather f 0 n) = rw (← gather-turn f n i h) w.total in
      record {
        turns = omega arith;
        few = omega (arith, w.few, s.total);
        same = kept ∙ w.same;
        rest =
            rw (at, s.words, ← sets-append (flat row (f i)) (flat row rest) now (count * width), ← flat_append row (f i) rest, ← gather-turn f n i h)
            w.rest;
        total = omega (arith, t, s.total, length-append (f i) rest);
      }

  pub written_end : (now : List ℕ) (count i : ℕ) → n ≤ i → Written row width f n before now count i → Stored row width 0 (gather f 0 n) before now count
  unfolding flat
  written_end now count i h w =
      let z : 0 * width ≡ 0 = omega arith in
      record {
        total = let e : count + 0 ≡ length (gather f 0 n) = rw (gather-end f n i h) at w.total in omega arith;
        words = rw z (rw (gather-end f n i h) at w.rest);
      }

-- a whole CALL's rows, as resolve gives them
pub all_stored : {A : Type 0} (row : A → List ℕ) (width : ℕ) (answer : ℕ → Result ℕ ResolveError) (items : List A) (entry exit : List ℕ) (n : ℕ)
    → Stored row width 0 items entry exit n → resolving (answer n) exit ≡ with_rows answer row items entry
all_stored row width answer items entry exit n s =
    let z : 0 * width ≡ 0 = omega arith in
    let e : n ≡ length items = omega (arith, s.total) in
    let w : exit ≡ sets entry 0 (flat row items) = rw z at s.words in
    rw (e, w)

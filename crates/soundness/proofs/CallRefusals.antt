-- A CALL is refused with 6, 7, 8, 14 or 17, so never with 18, nor with 13. Assumes nothing.
use Rattle.std.proofs.Common.{ℕ, List, refl, Option, Some, None}
use Rattle.tables.specs.declared.refusal.Refusal.{Refusal}
use Rattle.tables.specs.Refusal.{extern_not_found, argument_count, argument_errors, index_past_length, unfit_reply}
use Rattle.tables.specs.Lookup.{lookup_extern}
use Rattle.tables.specs.declared.rows.Instruction.{Instruction}
use Rattle.extern_call.specs.Call.{found_extern, find_call, is_counted, all_resolve, resolves_call}
use Rattle.extern_call.specs.declared.call.ExternCall.{ExternCall}
use Rattle.journal.specs.declared.cells.Write.{Write}
use Rattle.call_reply.specs.Call as M
use Rattle.machine.proofs.Ends.{Ends, Ruled, fine, turned, bind, tested}

-- of the result nothing is asked
abbrev pub Whatever : {A : Type 0} → A → Type 0
Whatever a = Unit {0}

found_ends : {R : Refusal → Type 0} → R extern_not_found → (f : Option ℕ) → Ends R (Whatever {A = ℕ}) (found_extern f)
found_ends z (Some row) = fine tt
found_ends z None = turned z

pub find_ends : {R : Refusal → Type 0} (externs : List ℕ) (x : Instruction) → R extern_not_found → Ends R (Whatever {A = ExternCall}) (find_call externs x)
unfolding find_call
find_ends externs x z = bind (found_ends z (lookup_extern externs x.first_name)) (λ row u. fine tt)

module _ (regions externs parameters arguments : List ℕ) (x : Instruction) where
  resolves_ends : Ends Ruled (Whatever {A = ExternCall}) (resolves_call regions externs parameters arguments x)
  unfolding resolves_call
  resolves_ends =
      bind (find_ends externs x refl) (λ call u. tested argument_count (is_counted call) refl (λ c.
      tested argument_errors (all_resolve regions parameters arguments call) refl (λ a. fine tt)))

  ready_ends : Ends Ruled (Whatever {A = ExternCall}) (M.call_ready regions externs parameters arguments x)
  unfolding M.call_ready
  ready_ends = bind resolves_ends (λ call u. tested index_past_length (M.scalars_fit regions parameters arguments call) refl (λ s. fine tt))

  judged_ends : (reply : List ℕ) → Ends Ruled (Whatever {A = ExternCall}) (M.call_judged regions externs parameters arguments x reply)
  unfolding M.call_judged
  judged_ends reply = bind ready_ends (λ call u. tested unfit_reply (M.reply_fits regions parameters arguments call reply) refl (λ f. fine tt))

  pub call_ends : (reply : List ℕ) → Ends Ruled (Whatever {A = List Write}) (M.call_outcome regions externs parameters arguments x reply)
  unfolding M.call_outcome
  call_ends reply = bind (judged_ends reply) (λ call u. fine tt)

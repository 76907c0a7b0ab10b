-- What the listing of a chain leaves of a lent id list (document 01, "Calls on a chain"). Assumes nothing.
use Rattle.std.specs.Prelude.{ℕ, ◌≡◌, List, [], length, take, Result, Ok, Err}
use Rattle.consts.specs.Refusals.{Ends}
use Rattle.consts.specs.declared.refusal.Refusal.{Refusal}
use Rattle.alloc.specs.Opening.{Tables, padded}
use Rattle.cfb.specs.Calls.{chain_no, chain_ids, ids_left}
use Rattle.cfb.specs.declared.State.{State}

-- zeros past the ids of a walk, and nothing but zeros beside a refusal
unfoldable pub cleared : Result ℕ Refusal → List ℕ → List ℕ
unfolding padded
cleared (Ok count) ids = padded (take count ids) (length ids)
cleared (Err e) ids = padded [] (length ids)

-- a chain is listed: the number or how many ids, and the id list
pub record ChainListed (s : State) (img : List ℕ) (t : Tables) (ids : List ℕ) (start : ℕ) (r : Result ℕ Refusal) (ids' : List ℕ) : Type 0 where
  pub answer : Ends (chain_no s img t (length ids) start) (length (chain_ids s t start)) r
  pub list : ids' ≡ ids_left (chain_no s img t (length ids) start) ids (chain_ids s t start)

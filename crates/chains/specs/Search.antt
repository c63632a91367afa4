-- Standing and the least chain as values: all valid chains of a hook, by number of grants and then by number, and the first
-- that serves. Their laws say that they are what Chains and Order define.
use Rattle.std.specs.Prelude.{ℕ, zero, suc, Bool, cond, not, ◌&&◌, List, [], ◌∷◌, ◌++◌, map, length, Option, ◌==◌, nat_le}
use Rattle.states.specs.declared.state.State.{State}
use Rattle.grants.specs.declared.Grant.{Grant}
use Rattle.conditions.specs.declared.truth.Truth.{Truth}
use Rattle.conditions.specs.Truths.{is_true}
use Rattle.chains.specs.declared.chain.Which.{Which}
use Rattle.chains.specs.declared.chain.Which.TheVariants.{Execute, Onward}
use Rattle.chains.specs.Lists.{every, any, keep_if, first_of}

-- the condition of a grant that is meant
abbrev pub condition_of : Which → Grant → ℕ
condition_of Execute g = g.execute
condition_of Onward g = g.onward

abbrev pub is_person : ℕ → Bool
is_person p = nat_le 1 p && nat_le p 200

-- whom a chain reaches: the last grantee, or the owner
abbrev pub end : ℕ → List Grant → ℕ
end o [] = o
end o (g ∷ c) = g.grantee

module _ (means : ℕ → State → Truth) where
  -- the grant conditions of c, its execute conditions, are true of s
  abbrev pub onward_true : List Grant → State → Bool
  onward_true c s = every (λ (k : Grant). is_true (means k.onward s)) c

  abbrev pub execute_true : List Grant → State → Bool
  execute_true c s = every (λ (k : Grant). is_true (means k.execute s)) c

  module _ (st : Grant → State) where
    -- c with g at its end is again a valid chain: g is of the hook, by the one whom c reaches, to one whom c does not, and
    -- c justifies it
    abbrev pub follows : ℕ → ℕ → List Grant → Grant → Bool
    follows h o c g =
        (g.hook == h)
        && (g.grantor == end o c && (not (g.grantee == o) && (every (λ (b : Grant). not (b.grantee == g.grantee)) c && onward_true c (st g))))

    -- c is a valid chain of the hook h
    abbrev pub is_sound : ℕ → ℕ → List Grant → Bool
    is_sound h o [] = is_person o
    is_sound h o (g ∷ c) = follows h o c g && is_sound h o c

    -- c is a valid chain of the hook h to p, of at most `most` grants
    abbrev pub leads_to : ℕ → ℕ → ℕ → ℕ → List Grant → Bool
    leads_to h o p most c = nat_le (length c) most && (is_sound h o c && end o c == p)

    -- a sound chain supports the grant g, serves a draw by p
    abbrev pub supports : ℕ → Grant → List Grant → Bool
    supports o g c = end o c == g.grantor && onward_true c (st g)

    abbrev pub serves : ℕ → ℕ → State → List Grant → Bool
    serves o p s c = end o c == p && execute_true c s

    module _ (r : List Grant) (h o : ℕ) where
      -- each chain of the list with each grant that may follow it
      abbrev pub grow : List (List Grant) → List (List Grant)
      grow [] = []
      grow (c ∷ cs) = map (λ g. g ∷ c) (keep_if (follows h o c) r) ++ grow cs

      -- the empty chain
      abbrev pub start : List (List Grant)
      start = cond (is_person o) ([] ∷ []) []

      -- these chains, and those of up to n grants more
      abbrev pub more : ℕ → List (List Grant) → List (List Grant)
      more zero cs = cs
      more (suc n) cs = cs ++ more n (grow cs)

      -- every valid chain of at most n grants
      abbrev pub chains : ℕ → List (List Grant)
      chains n = more n start

    -- whether a grant stands
    abbrev pub stands : List Grant → (ℕ → ℕ) → Grant → Bool
    stands r owner g = any (supports (owner g.hook) g) (chains r g.hook (owner g.hook) 7)

    -- the chain that a draw names, if any
    abbrev pub least_chain : List Grant → ℕ → ℕ → ℕ → State → Option (List Grant)
    least_chain r h o p s = first_of (serves o p s) (chains r h o 8)

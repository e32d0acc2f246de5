-- Small functions on tests and lists, of which the definitions are made. Only `none` and `over` state a rule.
-- Assumes nothing.
use Rattle.std.specs.Prelude.{if◌then◌else◌, Bool, true, false, ◌&&◌, ◌||◌, List, [], ◌∷◌, ◌++◌, ℕ, zero, suc, eqb, length, drop}
use Prim.Native.Char.{code}
use Prim.Native.String.{String}

-- rule 5.1: none (an infinite distance, or no node)
abbrev pub none : ℕ
none = 65535

-- m numbers from k on: k, k + 1, ..; and the numbers below n. (A `let` is computed only when it is read.)
unfoldable pub from : ℕ → ℕ → List ℕ
from k zero = []
from k (suc m) = let t = from (suc k) m in k ∷ t

unfoldable pub up_to : ℕ → List ℕ
up_to n = from 0 n

-- x is in the list
unfoldable pub has : ℕ → List ℕ → Bool
has x [] = false
has x (y ∷ ys) = eqb x y || has x ys

-- the test passes at some element; and at all of them
unfoldable pub any : (ℕ → Bool) → List ℕ → Bool
any p [] = false
any p (x ∷ xs) = p x || any p xs

unfoldable pub all : (ℕ → Bool) → List ℕ → Bool
all p [] = true
all p (x ∷ xs) = p x && all p xs

-- filter: the elements at which the test passes, in their order
unfoldable pub keep : (ℕ → Bool) → List ℕ → List ℕ
keep p [] = []
keep p (x ∷ xs) = let r = keep p xs in if p x then x ∷ r else r

-- find: the first element at which the test passes, or d
unfoldable pub first_of : (ℕ → Bool) → ℕ → List ℕ → ℕ
first_of p d [] = d
first_of p d (x ∷ xs) = let r = first_of p d xs in if p x then x else r

-- concatMap: the lists f x, one after the other
unfoldable pub gather : {A B : Type 0} → (A → List B) → List A → List B
gather f [] = []
gather f (x ∷ xs) = f x ++ gather f xs

-- two lists are the same
unfoldable pub same : List ℕ → List ℕ → Bool
same [] [] = true
same [] (y ∷ ys) = false
same (x ∷ xs) [] = false
same (x ∷ xs) (y ∷ ys) = eqb x y && same xs ys

-- the front of a lent list is replaced, and the entries past it are kept (rules 10.7 and 10.11)
unfoldable pub over : List ℕ → List ℕ → List ℕ
over new old = new ++ drop (length new) old

-- quoted text as bytes
unfoldable pub bytes : String → List ℕ
bytes String.[] = []
bytes (String.◌∷◌ c s) = code c ∷ bytes s

-- Steps of the readers of whole files that did not fail.
use Rattle.std.proofs.Common.{◌≡◌, ℕ, List, Ok, Err, refl}
use Rattle.narrow_forms.specs.Reads.{Read, ◌>>=◌, with_line}

abbrev pub done : {A : Type 0} → A → Read A
done x = Ok x

pub done_is : {A : Type 0} (x y : A) → done x ≡ done y → x ≡ y
done_is x y e = cc

-- the value of a step that did not fail
pub bound : {A B : Type 0} {read : Read A} {f : A → Read B} {y : B} → (read >>= f) ≡ Ok y → (x : A) × (read ≡ Ok x) × (f x ≡ Ok y)
bound {read = Ok x} e = (x, refl, e)
bound {read = Err at} e = absurd cc

-- and of a whole file
pub with_line_is : {A : Type 0} (bytes : List ℕ) (read : Read A) (x : A) → with_line bytes read ≡ Ok x → read ≡ Ok x
with_line_is bytes (Ok y) x e = cc
with_line_is bytes (Err at) x e = absurd cc

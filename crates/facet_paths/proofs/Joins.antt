-- One call after the other reads what the two readings read, one after the other.
use Rattle.std.proofs.Common.{List, ◌++◌, ap, subst, ◌∙◌, inl, inr}
use Rattle.ifc_base.specs.declared.key.Key.{Key}
use Rattle.audit_model.specs.Keys.{Sight}
use Rattle.audit_model.specs.Reading.{Reading, ◌>>=◌}
use Rattle.closure_walk.specs.Walking.{SameKeys}
use Rattle.closure_walk.proofs.Members.{in_first, in_last, in_parts}
use Rattle.facet_paths.specs.Reads.{Reads}

pub same_join : (a b c x y : List Key) → SameKeys b (a ++ x) → SameKeys c (b ++ y) → SameKeys c (a ++ (x ++ y))
same_join a b c x y f g k = (
  λ h. elim (in_parts k b y ((g k).0 h)) [
    | inl i ↦ elim (in_parts k a x ((f k).0 i)) [ inl j ↦ in_first k a (x ++ y) j | inr j ↦ in_last k a (x ++ y) (in_first k x y j) ]
    | inr i ↦ in_last k a (x ++ y) (in_last k x y i)
  ],
  λ h. (g k).1 (elim (in_parts k a (x ++ y) h) [
    | inl i ↦ in_first k b y ((f k).1 (in_first k a x i))
    | inr i ↦ elim (in_parts k x y i) [ inl j ↦ in_first k b y ((f k).1 (in_last k a x j)) | inr j ↦ in_last k b y j ]
  ]),
)

pub reads_then : {A B : Type 0} (m : Reading A) (f : A → Reading B) (v : Sight) (x : A) (y : B) (a b c : List Key) → Reads m v x a b → Reads (f x) v y b c → Reads (m >>= f) v y a c
reads_then m f v x y a b c r q = record {
  answer_is = q.answer_is ∙ ap (λ z. (f z).answer v) r.answer_is;
  reads_same = same_join a b c (m.keys v) ((f (m.answer v)).keys v) r.reads_same (subst (λ z. SameKeys c (b ++ (f z).keys v)) r.answer_is q.reads_same);
}

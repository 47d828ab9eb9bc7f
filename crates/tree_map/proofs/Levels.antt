-- What a level's calls keep and change, from what the calls below them keep and change.
use Rattle.std.proofs.Common.{◌≡◌, ◌≢◌, ℕ, ◌+◌, ◌*◌, ◌^◌, ◌<◌, Bool, true, false, cond, ◌==◌, List, [], ◌∷◌, ◌++◌, length, Option, Some, None, is_some, refl, eq-eqb, arith, ap, sym, subst, ◌∙◌}
use Rattle.std.proofs.lemmas.Bool.{true≢false, ne_eqb}
use Rattle.std.specs.Ordering.{nat_cmp, eq_by_cmp}
use Rattle.std.specs.FinMap.{find, put}
use Rattle.tree_map.specs.Pairs.{raised, joined, IsAscending, AreBelow, IsNode, pairs_of, Updates, cut}
use Rattle.tree_map.specs.Ordered.{rises_of, below_size}
use Rattle.tree_map.proofs.Joining.{tied, find_joined, updates_joined}
use Rattle.tree_map.proofs.Nodes.{updates_put, ascending_put, below_put, all_put, updates_cut, ascending_cut, below_cut, all_cut, all_found}
use Rattle.tree_map.proofs.Places.{cut_missing}

-- a list in which a key has a value isn't empty
pub not_empty : {V : Type 0} (k : ℕ) (v : V) (ps qs : List (ℕ × V)) → Updates k (Some v) ps qs → qs ≢ []
not_empty k v ps qs up e =
    let found : find nat_cmp k qs ≡ Some v = up k ∙ ap (λ b. cond b (Some v) (find nat_cmp k ps)) (tied k k refl) in
    true≢false (ap is_some (sym found ∙ ap (find nat_cmp k) e))

none_raised : {V : Type 0} (n : ℕ) (ps : List (ℕ × V)) → ps ≢ [] → (rest : List (ℕ × V)) → raised n ps ++ rest ≢ []
none_raised n [] h rest = λ e. h refl
none_raised n (p ∷ ps) h rest = λ e. absurd (cc)

module _ {B V : Type 0} (w : ℕ) (pairs : B → List (ℕ × V)) (IsWhole : B → Type 0) (law : (b : B) → IsWhole b → IsAscending (pairs b) × AreBelow (2 ^ w) (pairs b)) where
  pub empty_is : (bs : List (ℕ × B)) (n : ℕ) (b : Bool) → IsNode IsWhole pairs bs → length bs ≡ n → b ≡ (n == 0) → (b ≡ true → joined (2 ^ w) pairs bs ≡ []) × (joined (2 ^ w) pairs bs ≡ [] → b ≡ true)
  empty_is [] n b h l e = (λ t. refl, λ t. e ∙ eq-eqb n 0 (sym l))
  empty_is (x ∷ bs) n b h l e =
      let other : n ≢ 0 = omega arith in
      (λ t. absurd (true≢false (sym t ∙ e ∙ ne_eqb n 0 other)), λ t. absurd (none_raised (x.0 * 2 ^ w) (pairs x.1) h.3.0 (joined (2 ^ w) pairs bs) t))

  -- x is how many bits the lower digits of a key have, d the topmost digit of the key, and r the number of the others
  pub find_level : (x key d r : ℕ) → x ≡ w → key ≡ d * 2 ^ x + r → r < 2 ^ x → (bs : List (ℕ × B)) → IsNode IsWhole pairs bs → find nat_cmp key (joined (2 ^ w) pairs bs) ≡ find nat_cmp r (pairs_of pairs (find nat_cmp d bs))
  find_level x key d r e k l bs h =
      ap (λ q. find nat_cmp q (joined (2 ^ w) pairs bs)) (k ∙ ap (λ y. d * 2 ^ y + r) e)
      ∙ find_joined (2 ^ w) pairs d r bs (rises_of bs h.0) (below_size w pairs IsWhole law bs h.2) (subst (λ y. r < 2 ^ y) e l)

  pub get_found : (x key d r : ℕ) → x ≡ w → key ≡ d * 2 ^ x + r → r < 2 ^ x → (bs cs : List (ℕ × B)) → IsNode IsWhole pairs bs → cs ≡ bs → (b : B) → Some b ≡ find nat_cmp d cs → find nat_cmp r (pairs b) ≡ find nat_cmp key (joined (2 ^ w) pairs bs)
  get_found x key d r e k l bs cs h same b found = ap (λ o. find nat_cmp r (pairs_of pairs o)) (found ∙ ap (find nat_cmp d) same) ∙ sym (find_level x key d r e k l bs h)

  pub get_missing : (x key d r : ℕ) → x ≡ w → key ≡ d * 2 ^ x + r → r < 2 ^ x → (bs cs : List (ℕ × B)) → IsNode IsWhole pairs bs → cs ≡ bs → None ≡ find nat_cmp d cs → None ≡ find nat_cmp key (joined (2 ^ w) pairs bs)
  get_missing x key d r e k l bs cs h same found = ap (λ o. find nat_cmp r (pairs_of pairs o)) (found ∙ ap (find nat_cmp d) same) ∙ sym (find_level x key d r e k l bs h)

  pub set_node : (d : ℕ) (t : B) (bs cs : List (ℕ × B)) → d < 32 → IsNode IsWhole pairs bs → IsWhole t → pairs t ≢ [] → cs ≡ put nat_cmp d t bs → IsNode IsWhole pairs cs
  set_node d t bs cs l h ht n e =
      subst (IsNode IsWhole pairs) (sym e) (ascending_put d t bs h.0, below_put 32 d t bs l h.1, all_put IsWhole d t bs ht h.2, all_put (λ b. pairs b ≢ []) d t bs n h.3)

  pub cut_node : (d : ℕ) (bs cs : List (ℕ × B)) → IsNode IsWhole pairs bs → cs ≡ cut d bs → IsNode IsWhole pairs cs
  cut_node d bs cs h e =
      subst (IsNode IsWhole pairs) (sym e) (ascending_cut d bs h.0, below_cut 32 d bs h.1, all_cut IsWhole d bs h.2, all_cut (λ b. pairs b ≢ []) d bs h.3)

  changed : (x key d r : ℕ) (o : Option B) (v : Option V) → x ≡ w → key ≡ d * 2 ^ x + r → r < 2 ^ x → (bs cs : List (ℕ × B)) → IsNode IsWhole pairs bs → IsNode IsWhole pairs cs → Updates d o bs cs → Updates r v (pairs_of pairs (find nat_cmp d bs)) (pairs_of pairs o) → Updates key v (joined (2 ^ w) pairs bs) (joined (2 ^ w) pairs cs)
  changed x key d r o v e k l bs cs h hc up below =
      subst (λ q. Updates q v (joined (2 ^ w) pairs bs) (joined (2 ^ w) pairs cs)) (sym (k ∙ ap (λ y. d * 2 ^ y + r) e))
      (updates_joined (2 ^ w) pairs bs cs d r o v (rises_of bs h.0) (rises_of cs hc.0) (below_size w pairs IsWhole law bs h.2) (below_size w pairs IsWhole law cs hc.2) (subst (λ y. r < 2 ^ y) e l) up below)

  pub set_updates : (x key d r : ℕ) (t : B) (v : Option V) → x ≡ w → key ≡ d * 2 ^ x + r → r < 2 ^ x → (bs cs : List (ℕ × B)) → d < 32 → IsNode IsWhole pairs bs → IsWhole t → pairs t ≢ [] → cs ≡ put nat_cmp d t bs → Updates r v (pairs_of pairs (find nat_cmp d bs)) (pairs t) → Updates key v (joined (2 ^ w) pairs bs) (joined (2 ^ w) pairs cs)
  set_updates x key d r t v e k l bs cs m h ht n c below =
      changed x key d r (Some t) v e k l bs cs h (set_node d t bs cs m h ht n c) (subst (Updates d (Some t) bs) (sym c) (updates_put d t bs)) below

  pub cut_updates : (x key d r : ℕ) → x ≡ w → key ≡ d * 2 ^ x + r → r < 2 ^ x → (bs cs : List (ℕ × B)) → IsNode IsWhole pairs bs → cs ≡ cut d bs → Updates r None (pairs_of pairs (find nat_cmp d bs)) [] → Updates key None (joined (2 ^ w) pairs bs) (joined (2 ^ w) pairs cs)
  cut_updates x key d r e k l bs cs h c below =
      changed x key d r None None e k l bs cs h (cut_node d bs cs h c) (subst (Updates d None bs) (sym c) (updates_cut d bs)) below

  nothing : (r : ℕ) (o : Option B) → o ≡ None → Updates r None (pairs_of pairs o) []
  nothing r o e q = elim (eq_by_cmp nat_cmp q r) as (λ b. None ≡ cond b None (find nat_cmp q (pairs_of pairs o))) [ true ↦ refl | false ↦ sym (ap (λ y. find nat_cmp q (pairs_of pairs y)) e) ]

  -- nothing changes where the digit has no branch
  pub same_updates : (x key d r : ℕ) → x ≡ w → key ≡ d * 2 ^ x + r → r < 2 ^ x → (bs cs : List (ℕ × B)) → IsNode IsWhole pairs bs → find nat_cmp d bs ≡ None → cs ≡ bs → Updates key None (joined (2 ^ w) pairs bs) (joined (2 ^ w) pairs cs)
  same_updates x key d r e k l bs cs h none c = cut_updates x key d r e k l bs cs h (c ∙ cut_missing d bs none) (nothing r (find nat_cmp d bs) none)

  pub whole_found : (d : ℕ) (bs cs : List (ℕ × B)) (b : B) → IsNode IsWhole pairs bs → cs ≡ bs → Some b ≡ find nat_cmp d cs → IsWhole b
  whole_found d bs cs b h same e = all_found IsWhole d bs b h.2 (sym (e ∙ ap (find nat_cmp d) same))

  -- ---- a value that was put below a digit: what was there is seen in a reading of the node
  pub put_level : (x key d r : ℕ) (t f : B) (v : V) → x ≡ w → key ≡ d * 2 ^ x + r → r < 2 ^ x → (bs ms cs rs : List (ℕ × B)) → d < 32 → IsNode IsWhole pairs bs → IsWhole t → ms ≡ bs → cs ≡ put nat_cmp d t ms → rs ≡ ms → pairs f ≡ pairs_of pairs (find nat_cmp d rs) → Updates r (Some v) (pairs f) (pairs t) → IsNode IsWhole pairs cs × Updates key (Some v) (joined (2 ^ w) pairs bs) (joined (2 ^ w) pairs cs)
  put_level x key d r t f v e k l bs ms cs rs m h ht same c read from up =
      let n : pairs t ≢ [] = not_empty r v (pairs f) (pairs t) up in
      let set : cs ≡ put nat_cmp d t bs = c ∙ ap (put nat_cmp d t) same in
      let there : pairs f ≡ pairs_of pairs (find nat_cmp d bs) = from ∙ ap (λ z. pairs_of pairs (find nat_cmp d z)) (read ∙ same) in
      (set_node d t bs cs m h ht n set, set_updates x key d r t (Some v) e k l bs cs m h ht n set (subst (λ z. Updates r (Some v) z (pairs t)) there up))

  -- ---- a key that was taken out below a digit
  below_now : (d r : ℕ) (b : B) (bs cs : List (ℕ × B)) (ps : List (ℕ × V)) → cs ≡ bs → Some b ≡ find nat_cmp d cs → Updates r None (pairs b) ps → Updates r None (pairs_of pairs (find nat_cmp d bs)) ps
  below_now d r b bs cs ps same found up = subst (λ o. Updates r None (pairs_of pairs o) ps) (found ∙ ap (find nat_cmp d) same) up

  pub without_level : (x key d r : ℕ) (b t a : B) → x ≡ w → key ≡ d * 2 ^ x + r → r < 2 ^ x → (bs ms cs rs : List (ℕ × B)) → d < 32 → IsNode IsWhole pairs bs → IsWhole t → pairs t ≢ [] → ms ≡ bs → a ≡ t → cs ≡ put nat_cmp d a ms → rs ≡ bs → Some b ≡ find nat_cmp d rs → Updates r None (pairs b) (pairs t) → IsNode IsWhole pairs cs × Updates key None (joined (2 ^ w) pairs bs) (joined (2 ^ w) pairs cs)
  without_level x key d r b t a e k l bs ms cs rs m h ht n same held c read found up =
      let set : cs ≡ put nat_cmp d t bs = c ∙ ap (λ y. put nat_cmp d y ms) held ∙ ap (put nat_cmp d t) same in
      (set_node d t bs cs m h ht n set, set_updates x key d r t None e k l bs cs m h ht n set (below_now d r b bs rs (pairs t) read found up))

  pub cut_level : (x key d r : ℕ) (b t : B) → x ≡ w → key ≡ d * 2 ^ x + r → r < 2 ^ x → (bs ms cs rs : List (ℕ × B)) → IsNode IsWhole pairs bs → pairs t ≡ [] → ms ≡ bs → cs ≡ cut d ms → rs ≡ bs → Some b ≡ find nat_cmp d rs → Updates r None (pairs b) (pairs t) → IsNode IsWhole pairs cs × Updates key None (joined (2 ^ w) pairs bs) (joined (2 ^ w) pairs cs)
  cut_level x key d r b t e k l bs ms cs rs h n same c read found up =
      let set : cs ≡ cut d bs = c ∙ ap (cut d) same in
      (cut_node d bs cs h set, cut_updates x key d r e k l bs cs h set (subst (Updates r None (pairs_of pairs (find nat_cmp d bs))) n (below_now d r b bs rs (pairs t) read found up)))

  pub same_level : (x key d r : ℕ) → x ≡ w → key ≡ d * 2 ^ x + r → r < 2 ^ x → (bs ms rs : List (ℕ × B)) → IsNode IsWhole pairs bs → ms ≡ bs → rs ≡ bs → None ≡ find nat_cmp d rs → IsNode IsWhole pairs ms × Updates key None (joined (2 ^ w) pairs bs) (joined (2 ^ w) pairs ms)
  same_level x key d r e k l bs ms rs h same read none =
      (subst (IsNode IsWhole pairs) (sym same) h, same_updates x key d r e k l bs ms h (sym (none ∙ ap (find nat_cmp d) read)) same)

-- ---- the lowest level
pub lowest_key : (bits key : ℕ) → bits ≡ 5 → key < 2 ^ bits → key < 32
lowest_key bits key e h = subst (λ n. key < 2 ^ n) e h

module _ {V : Type 0} where
  pub lowest_set : (d : ℕ) (v x : V) (ps qs : List (ℕ × V)) → d < 32 → IsAscending ps × AreBelow 32 ps → x ≡ v → qs ≡ put nat_cmp d x ps → IsAscending qs × AreBelow 32 qs
  lowest_set d v x ps qs l h e c = subst (λ l. IsAscending l × AreBelow 32 l) (sym c) (ascending_put d x ps h.0, below_put 32 d x ps l h.1)

  pub lowest_updates : (d : ℕ) (v x : V) (ps qs : List (ℕ × V)) → x ≡ v → qs ≡ put nat_cmp d x ps → Updates d (Some v) ps qs
  lowest_updates d v x ps qs e c = subst (Updates d (Some v) ps) (sym (c ∙ ap (λ y. put nat_cmp d y ps) e)) (updates_put d v ps)

  pub lowest_cut : (d : ℕ) (ps qs : List (ℕ × V)) → IsAscending ps × AreBelow 32 ps → qs ≡ cut d ps → IsAscending qs × AreBelow 32 qs
  lowest_cut d ps qs h c = subst (λ l. IsAscending l × AreBelow 32 l) (sym c) (ascending_cut d ps h.0, below_cut 32 d ps h.1)

  pub cut_updates_lowest : (d : ℕ) (ps qs : List (ℕ × V)) → qs ≡ cut d ps → Updates d None ps qs
  cut_updates_lowest d ps qs c = subst (Updates d None ps) (sym c) (updates_cut d ps)

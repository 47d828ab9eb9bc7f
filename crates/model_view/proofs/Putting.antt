-- A model and its index after one change.
use Rattle.std.proofs.Common.{◌≡◌, ℕ, List, Option, sym, subst, ap, ◌∙◌}
use Rattle.std.specs.Ordering.{nat_cmp}
use Rattle.std.specs.FinMap.{FinMap}
use Rattle.ifc_base.specs.declared.value.Instance.{Instance}
use Rattle.audit_model.specs.Models.{IsModel, instance_at}
use Rattle.schema_table.specs.Schema.{Schema}
use Rattle.inverse_index.specs.Index.{replaced, HasId, Indexes, ListsHolders, Reindexes, RelistsHolders}
use Rattle.model_view.specs.Trees.{IsWhole, model_of}
use Rattle.model_view.specs.Views.{ModelView}
use Rattle.model_view.proofs.TreeModels.{Turned, model_is, model_turned, turned_by_id}

module _ (n : ℕ) (old new : Option Instance) (t u : FinMap nat_cmp Instance) (l k : FinMap nat_cmp (List ℕ)) (v : ModelView) (view : ◌≡◌ {A = ModelView} (record { model = model_of t; lists = l }) v) (whole : IsWhole t l) (id : HasId n new) (turned : Turned n new t u) where
  same_model : model_of t ≡ v.model
  same_model = ap (λ (w : ModelView). w.model) view

  pub model_put : model_of u ≡ replaced n new v.model
  model_put = model_turned n new t u id whole.by_id turned ∙ ap (replaced n new) same_model

  is_model : IsModel v.model
  is_model = subst IsModel same_model (model_is t whole.by_id)

  pub index_put : (s : Schema) → instance_at n v.model ≡ old → Reindexes s n old new l k → Indexes s v.model v.lists → Indexes s (model_of u) k
  index_put s e re index =
      let before : Indexes s v.model l = subst (λ x. Indexes s v.model x) (sym (ap (λ (w : ModelView). w.lists) view)) index in
      let after : Indexes s (replaced n new v.model) k = re v.model is_model e before in
      subst (λ m. Indexes s m k) (sym model_put) after

  pub whole_put : instance_at n v.model ≡ old → RelistsHolders n old new l k → IsWhole u k
  whole_put e re =
      let before : ListsHolders v.model l = subst (λ m. ListsHolders m l) same_model whole.holders in
      let after : ListsHolders (replaced n new v.model) k = re v.model is_model e before in
      record {
        by_id = turned_by_id n new t u id whole.by_id turned;
        holders = subst (λ m. ListsHolders m k) (sym model_put) after;
      }

-- Which forms are sought.
use Rattle.kore_shapes.specs.declared.forms.SoughtForms.{SoughtForms}
use Rattle.kore_shapes.specs.declared.forms.SoughtForms.TheVariants as forms
use Rattle.kore_shapes.specs.Forms.{Sought, others, all_forms}

abbrev pub sought : SoughtForms → Sought
sought forms.Others = others
sought forms.All = all_forms

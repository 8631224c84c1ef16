pub mod ChooseLaws
pub mod ContentsLaws
pub mod MeterLaws
pub mod PickLaws
pub mod PlansLaws
pub mod StoreLaws
pub mod UsingLaws

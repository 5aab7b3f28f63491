pub mod StepView

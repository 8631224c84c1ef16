-- What a running volume takes over of an image.
pub mod Nodes
pub mod Rows
pub mod Orders
